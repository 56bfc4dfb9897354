-- Which parts are open before a position, and which slots are unmet by these.
use Rattle.std.specs.Prelude.{◌≡◌, ◌==◌, ℕ, ◌<◌, Bool, true, false, ◌||◌, List, nat_lt}
use Rattle.vic_log.specs.declared.entry.Entry.{Entry}
use Rattle.vic_walk.specs.declared.lacking.Candidates.{Candidates}
use Rattle.vic_walk.specs.Marked.{NoneBetween, is_marked}
use Rattle.vic_walk.specs.Met.{IsMetAt}
use Rattle.vic_walk.specs.Walk.{AreStatesAt}

-- a part with this end is open before position n
abbrev pub is_open_before : ℕ → ℕ → Bool
is_open_before n end = end == 0 || nat_lt n end

-- these are the states of all parts, and no candidate comes earlier
pub record AreCandidates (bs : List ℕ) (es : List Entry) (c : Candidates) : Type 0 where
  pub none : NoneBetween (is_marked c.slots) 0 c.from
  pub states : AreStatesAt bs es (λ u. true) c.from c.states

-- in `lacking` are marked slots before position n that aren't met by the UIDs open before n: of
-- those before position m all
pub record AreLacking (es : List Entry) (slots : List Bool) (n m : ℕ) (lacking : List Bool)
    : Type 0 where
  pub unmet : (k : ℕ) → is_marked lacking k ≡ true
      → (k < n) × (is_marked slots k ≡ true) × (IsMetAt es n k → ⊥)
  pub met : (k : ℕ) → k < m → is_marked slots k ≡ true → is_marked lacking k ≡ false
      → IsMetAt es n k
