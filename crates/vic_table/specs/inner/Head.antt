-- A first line under a separator.
use Rattle.std.specs.Prelude.{◌≡◌, ℕ, Bool, true, false, Some, None, List}
use Rattle.vic_table.specs.Cells.{cells_of}
use Rattle.vic_table.specs.Columns.{separator_byte, separator_of, columns_under}
use Rattle.vic_table.specs.declared.columns.Separator.{Separator}
use Rattle.vic_table.specs.declared.columns.Head.{Head}
use Rattle.vic_table.specs.declared.columns.Head.TheVariants.{Misquoted, Unnamed, Named}

abbrev pub is_misquoted_head : Head → Bool
is_misquoted_head Misquoted = true
is_misquoted_head Unnamed = false
is_misquoted_head (Named c) = false

-- the line, split under the separator, is this, and has these cells, if it has some
abbrev pub IsHead : List ℕ → Separator → List (List ℕ) → Head → Type 0
IsHead line separator cells Misquoted = cells_of (separator_byte separator) line ≡ None
IsHead line separator cells Unnamed =
    (cells_of (separator_byte separator) line ≡ Some cells) × (columns_under line separator ≡ None)
IsHead line separator cells (Named c) =
    (cells_of (separator_byte separator) line ≡ Some cells)
    × (columns_under line separator ≡ Some c)
    × (separator_of c ≡ separator)
