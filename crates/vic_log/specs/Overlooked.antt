-- Where a tag was overlooked: it would answer in a slot, and the log says that it didn't.
use Rattle.std.specs.Prelude.{◌≡◌, ℕ, ◌==◌, Bool, true, false, not, ◌&&◌, Option, Some, None, List, slice_get}
use Rattle.vic_log.specs.declared.entry.Entry.{Entry}
use Rattle.vic_log.specs.declared.entry.Entry.TheVariants.{Sent, Silent, Collision, Heard, Listed, Garbled, FieldCycle, Captured, Unknown}
use Rattle.vic_log.specs.Populations.{answers_at}

-- a slot with this entry was silent, or held the reply of another UID alone
abbrev pub denies_reply_of : Entry → ℕ → Bool
denies_reply_of Silent u = true
denies_reply_of (Heard r) u = not (r.uid == u)
denies_reply_of (Captured r) u = false
denies_reply_of Collision u = false
denies_reply_of Garbled u = false
denies_reply_of Unknown u = false
denies_reply_of (Sent q) u = false
denies_reply_of (Listed v) u = false
denies_reply_of FieldCycle u = false

abbrev pub some_denies_reply_of : Option Entry → ℕ → Bool
some_denies_reply_of (Some e) u = denies_reply_of e u
some_denies_reply_of None u = false

-- a tag with this UID would answer in the slot at position i, whose entry denies its reply
abbrev pub is_overlooked : List Entry → ℕ → ℕ → Bool
is_overlooked es i u = answers_at es i u && some_denies_reply_of (slice_get es i) u

abbrev pub IsNeverOverlooked : List Entry → ℕ → Type 0
IsNeverOverlooked es u = (i : ℕ) → is_overlooked es i u ≡ false
