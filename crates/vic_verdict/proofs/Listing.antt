-- The entries of lines, and the UIDs that they list.
use Rattle.vic_verdict.proofs.Words.{◌≡◌, ℕ, suc, List, [], ◌∷◌, ◌++◌, Some, take, refl, Entry, Listed, ap, ◌∙◌, slice_get, entries_next, listed-append, LogLine, entries, listed}
pub use Rattle.vic_walk.proofs.LineLaws.{entry_at, number_above}

-- an entry that is no listed UID lists none
pub lists_none : (e : Entry) → ((u : ℕ) → e ≡ Listed u → ⊥) → listed (e ∷ []) ≡ []
lists_none (Listed u) none = absurd (none u refl)
lists_none e none = refl

-- one line more
pub listed_more : (lines : List LogLine) (i : ℕ) (l : LogLine) → slice_get lines i ≡ Some l → listed (entries (take (suc i) lines)) ≡ listed (entries (take i lines)) ++ listed (l.item ∷ [])
listed_more lines i l k = ap listed (entries_next lines i l k) ∙ listed-append (entries (take i lines)) (l.item ∷ [])
