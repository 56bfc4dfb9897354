-- A set of UIDs: rows over which they are spread, and those whose row was full.
use Rattle.std.specs.Prelude.{◌≡◌, ℕ, ◌*◌, ◌^◌, ◌<◌, ◌≤◌, Bool, true, false, ◌||◌, List, [], length, slice_index_or, ◌/◌, ◌%◌}
use Rattle.std.specs.BTreeSet as sorted
use Rattle.std.specs.Ordering.{nat_cmp}
use Rattle.vic_frame.specs.Uids.{has}
use Rattle.vic_log.specs.declared.uid_set.TheConstants.{SPREAD}
use Rattle.vic_log.specs.declared.uid_set.UidSet.{UidSet}

-- which of that many rows a number selects
abbrev pub place_of : ℕ → ℕ → ℕ
place_of u rows = u * SPREAD % 2 ^ 64 * rows / 2 ^ 64

-- the row of a number
abbrev pub row_of : List (List ℕ) → ℕ → List ℕ
row_of rows u = slice_index_or rows (place_of u (length rows)) []

abbrev pub is_held : UidSet → ℕ → Bool
is_held s u = has (row_of s.rows.items u) u || sorted.contains nat_cmp s.others u

-- there is a row, and the row of each UID outside the rows is full
pub record IsUidSet (s : UidSet) : Type 0 where
  pub some : 0 < length s.rows.items
  pub full : (u : ℕ) → sorted.contains nat_cmp s.others u ≡ true
      → has (row_of s.rows.items u) 0 ≡ false

-- it holds these UIDs
abbrev pub IsSetOf : List ℕ → UidSet → Type 0
IsSetOf us s = (u : ℕ) → 0 < u → is_held s u ≡ has us u

-- while the set has no rows, UIDs are at most the greatest; then it holds them
pub record IsIndex (us : List ℕ) (greatest : ℕ) (s : UidSet) : Type 0 where
  pub rising : length s.rows.items ≡ 0 → (u : ℕ) → has us u ≡ true → u ≤ greatest
  pub set : 0 < length s.rows.items → IsUidSet s
  pub uids : 0 < length s.rows.items → IsSetOf us s
