-- Sets of the numbers below a count: for each number, whether it is marked.
use Rattle.std.specs.Prelude.{◌≡◌, ℕ, ◌≤◌, ◌<◌, Bool, true, false, List, slice_index_or}

-- the number is marked
abbrev pub is_marked : List Bool → ℕ → Bool
is_marked marks k = slice_index_or marks k false

-- none of the numbers from `from` to the one before `to` passes
abbrev pub NoneBetween : (ℕ → Bool) → ℕ → ℕ → Type 0
NoneBetween test from to = (k : ℕ) → from ≤ k → k < to → test k ≡ false

-- p is the first number, from `start` on, that passes
pub record IsFirst (test : ℕ → Bool) (start p : ℕ) : Type 0 where
  pub from : start ≤ p
  pub passes : test p ≡ true
  pub before : NoneBetween test start p
