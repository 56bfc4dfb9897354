-- Lists of UIDs as sets; most lists are rising.
use Rattle.std.specs.Prelude.{◌≡◌, ◌↔◌, ℕ, Bool, true, false, List}
use Rattle.std.specs.List.Sorted.{IsStrictlyIncreasing}
use Rattle.vic_frame.specs.Uids.{has}

-- the same members
abbrev pub SameMembers : List ℕ → List ℕ → Type 0
SameMembers us vs = (u : ℕ) → has us u ≡ has vs u

-- the numbers for which P holds, in rising order
pub record IsListOf (P : ℕ → Type 0) (us : List ℕ) : Type 0 where
  pub rising : IsStrictlyIncreasing us
  pub members : (u : ℕ) → (has us u ≡ true) ↔ P u

-- a member that fails a test
abbrev pub IsFailing : List ℕ → (ℕ → Bool) → ℕ → Type 0
IsFailing us test u = (has us u ≡ true) × (test u ≡ false)
