-- Which tags are Quiet (ISO/IEC 15693-3, Stay Quiet), found by looking back from a position.
use Rattle.std.specs.Prelude.{◌≡◌, ◌≢◌, ◌<◌, ℕ, zero, suc, ◌==◌, Bool, true, false, not, ◌&&◌, ◌||◌, Option, Some, None, List, slice_get}
use Rattle.vic_frame.specs.declared.request.Request.TheVariants.{StayQuiet}
use Rattle.vic_log.specs.declared.entry.Entry.{Entry}
use Rattle.vic_log.specs.declared.entry.Entry.TheVariants.{Sent, FieldCycle}

-- the entry is a Stay Quiet with this UID
abbrev pub silences : Option Entry → ℕ → Bool
silences (Some (Sent (StayQuiet link uid))) u = uid == u
silences (Some e) u = false
silences None u = false

-- the entry switches the field off and on, and so makes all tags Ready
abbrev pub wakes : Option Entry → Bool
wakes (Some FieldCycle) = true
wakes (Some e) = false
wakes None = false

-- a tag with this UID is Quiet at position i: a Stay Quiet with it comes before i, with no field
-- cycle in between
abbrev pub is_quiet : List Entry → ℕ → ℕ → Bool
is_quiet es zero u = false
is_quiet es (suc j) u =
    silences (slice_get es j) u || (not (wakes (slice_get es j)) && is_quiet es j u)

-- the same, said of all positions in between
abbrev pub IsSilenced : List Entry → ℕ → ℕ → Type 0
IsSilenced es i u =
    (j : ℕ) × (j < i) × (silences (slice_get es j) u ≡ true)
    × ((k : ℕ) → j < k → k < i → slice_get es k ≢ Some FieldCycle)
