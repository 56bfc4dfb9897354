-- Where a key lies among borders.
use Rattle.std.specs.Prelude.{ℕ, ◌<◌, ◌≤◌, List, length, slice_index}

-- it lies between two borders, of which the first comes before the second
pub record IsBetween (bs : List ℕ) (k from to : ℕ) : Type 0 where
  pub forward : from < to
  pub within : to < length bs
  pub low : slice_index bs from ≤ k
  pub high : k < slice_index bs to
