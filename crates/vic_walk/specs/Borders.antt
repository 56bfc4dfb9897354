-- Parts of the keys (profile): what lies between two borders that follow each other.
use Rattle.std.specs.Prelude.{◌≡◌, ℕ, ◌+◌, ◌-◌, ◌^◌, ◌<◌, ◌≤◌, List, length, slice_index}
use Rattle.std.specs.List.Sorted.{IsStrictlyIncreasing}
use Rattle.vic_frame.specs.declared.uid.TheConstants.{UID_BITS}

-- borders rise, from the first key to the end of the keys
pub record AreBorders (bs : List ℕ) : Type 0 where
  pub rising : IsStrictlyIncreasing bs
  pub first : slice_index bs 0 ≡ 0
  pub last : slice_index bs (length bs - 1) ≡ 2 ^ UID_BITS

-- how many parts there are
abbrev pub part_count : List ℕ → ℕ
part_count bs = length bs - 1

-- part p has the key
pub record IsPartOf (bs : List ℕ) (k p : ℕ) : Type 0 where
  pub within : p < part_count bs
  pub from : slice_index bs p ≤ k
  pub before : k < slice_index bs (p + 1)
