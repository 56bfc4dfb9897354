-- Where the list of a log begins, after which it has nothing else.
use Rattle.std.specs.Prelude.{◌≡◌, ℕ, ◌<◌, ◌≤◌, Some, List, slice_get}
use Rattle.vic_log.specs.declared.entry.Entry.{Entry}
use Rattle.vic_log.specs.declared.entry.Entry.TheVariants.{Listed}

-- the entry lists a UID
abbrev pub IsListing : Entry → Type 0
IsListing e = (u : ℕ) × (e ≡ Listed u)

-- no entry before position n lists a UID
abbrev pub IsBeforeList : List Entry → ℕ → Type 0
IsBeforeList es n = (i : ℕ) (e : Entry) → i < n → slice_get es i ≡ Some e → IsListing e → ⊥

-- each entry from position n on lists one
abbrev pub IsListFrom : List Entry → ℕ → Type 0
IsListFrom es n = (i : ℕ) (e : Entry) → n ≤ i → slice_get es i ≡ Some e → IsListing e
