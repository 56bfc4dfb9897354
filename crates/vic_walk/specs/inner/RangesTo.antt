-- Ranges of keys that are gathered from the lowest key up.
use Rattle.std.specs.Prelude.{ℕ, ◌+◌, ◌≤◌, List}
use Rattle.std.specs.List.{All}
use Rattle.vic_tree.specs.Ranges.{AreRanges}

-- ranges in order, with a key between any two, and between the last of them and key k
pub record AreRangesTo (k : ℕ) (rs : List (ℕ × ℕ)) : Type 0 where
  pub ranges : AreRanges rs
  pub apart : All (λ r. r.1 + 2 ≤ k) rs
