-- The columns of a table, by its first line.
use Rattle.std.specs.Prelude.{ℕ, ◌==◌, Bool, ◌&&◌, ◌||◌, false, nat_le, if◌then◌else◌, Option, Some, None, is_none, unwrap_or, List, length, take, count_by, position, codes}
use Rattle.std.specs.List.{list_any, remove}
use Rattle.std.specs.Option.{option_and_then, option_or}
use Rattle.std.specs.Str.{byte, bytes_eq}
use Rattle.vic_table.specs.Cells.{cells_of}
use Rattle.vic_table.specs.Contents.{tab, folded, is_word, tells_uid}
use Rattle.vic_table.specs.declared.columns.Separator.{Separator}
use Rattle.vic_table.specs.declared.columns.Separator.TheVariants.{Comma, Semicolon, Tab}
use Rattle.vic_table.specs.declared.columns.CatalogueColumns.{CatalogueColumns}
use Rattle.vic_table.specs.declared.columns.PlacesColumns.{PlacesColumns}
use Rattle.vic_table.specs.declared.columns.Columns.{Columns}
use Rattle.vic_table.specs.declared.columns.Columns.TheVariants.{Catalogue, Places}
use Rattle.vic_table.specs.declared.fault.TableLineFault.{TableLineFault}
use Rattle.vic_table.specs.declared.fault.TableLineFault.TheVariants as fault

abbrev pub separator_byte : Separator → ℕ
separator_byte Comma = byte ","
separator_byte Semicolon = byte ";"
separator_byte Tab = tab

-- how many columns have a name, and the index of the first that has it
abbrev pub count_of : List ℕ → List (List ℕ) → ℕ
count_of name cells = count_by (is_word name) cells

abbrev pub index_of : List ℕ → List (List ℕ) → Option ℕ
index_of name cells = position (is_word name) cells

-- one column `uid`, at most one `place` and at most one `away`
abbrev pub are_of_catalogue : List (List ℕ) → Bool
are_of_catalogue cells =
    count_of (codes "uid") cells == 1
    && nat_le (count_of (codes "place") cells) 1
    && nat_le (count_of (codes "away") cells) 1

-- one column `place`, one `log` and none `uid`
abbrev pub are_of_places : List (List ℕ) → Bool
are_of_places cells =
    count_of (codes "uid") cells == 0
    && count_of (codes "place") cells == 1
    && count_of (codes "log") cells == 1

abbrev pub catalogue_columns : Separator → List (List ℕ) → CatalogueColumns
catalogue_columns separator cells = record {
  separator = separator;
  count = length cells;
  uid = unwrap_or (index_of (codes "uid") cells) 0;
  place = index_of (codes "place") cells;
  away = index_of (codes "away") cells;
}

abbrev pub places_columns : Separator → List (List ℕ) → PlacesColumns
places_columns separator cells = record {
  separator = separator;
  count = length cells;
  place = unwrap_or (index_of (codes "place") cells) 0;
  log = unwrap_or (index_of (codes "log") cells) 0;
}

-- the columns that these names are, if a table has such
abbrev pub named_columns : Separator → List (List ℕ) → Option Columns
named_columns separator cells =
    if are_of_catalogue cells then Some (Catalogue (catalogue_columns separator cells))
    else if are_of_places cells then Some (Places (places_columns separator cells))
    else None

-- the columns of a first line under a separator
abbrev pub columns_under : List ℕ → Separator → Option Columns
columns_under line separator =
    option_and_then (named_columns separator) (cells_of (separator_byte separator) line)

-- under the first of comma, semicolon and tab that gives some
abbrev pub columns_of : List ℕ → Option Columns
columns_of line =
    option_or (columns_under line Comma)
    (option_or (columns_under line Semicolon) (columns_under line Tab))

-- under each of the three separators a quote is wrong
abbrev pub is_misquoted : List ℕ → Bool
is_misquoted line =
    is_none (cells_of (separator_byte Comma) line)
    && is_none (cells_of (separator_byte Semicolon) line)
    && is_none (cells_of (separator_byte Tab) line)

-- the name of a column that the program writes behind those of a catalogue
abbrev pub is_of_this_version : List ℕ → Bool
is_of_this_version cell = bytes_eq (take 9 (folded cell)) (codes "vicinity ")

-- and of one that its version 1 wrote there. Its column `state` doesn't count: catalogues have one
abbrev pub is_of_version_1 : List ℕ → Bool
is_of_version_1 cell = is_word (codes "certain in") cell || is_word (codes "may be in") cell

-- the name of a column of a table that was written about a catalogue
abbrev pub is_of_result : List ℕ → Bool
is_of_result cell = is_of_this_version cell || is_of_version_1 cell

abbrev pub are_of_result : List (List ℕ) → Bool
are_of_result cells = list_any is_of_result cells

abbrev pub separator_of : Columns → Separator
separator_of (Catalogue c) = c.separator
separator_of (Places c) = c.separator

-- a UID in a cell of a catalogue's line besides that of the column `uid`
abbrev pub tells_elsewhere : CatalogueColumns → List (List ℕ) → Bool
tells_elsewhere c cells = list_any tells_uid (remove cells c.uid)

-- a name of a column of a catalogue has or spells a UID
abbrev pub is_told_by_name : Columns → List (List ℕ) → Bool
is_told_by_name (Catalogue c) cells = tells_elsewhere c cells
is_told_by_name (Places c) cells = false

-- the first fault of the names of a table's columns
abbrev pub names_fault : Columns → List (List ℕ) → Option TableLineFault
names_fault columns cells =
    if are_of_result cells then Some fault.Result
    else if is_told_by_name columns cells then Some fault.UidElsewhere
    else None

-- the cells of a first line under the separator of its columns
abbrev pub first_cells : List ℕ → Columns → Option (List (List ℕ))
first_cells line columns = cells_of (separator_byte (separator_of columns)) line

-- the first fault of a first line that has cells, by the columns that it names
abbrev pub columns_fault : List ℕ → Option Columns → Option TableLineFault
columns_fault line None = Some fault.Columns
columns_fault line (Some columns) =
    option_and_then (names_fault columns) (first_cells line columns)

-- the first fault of a first line
abbrev pub first_line_fault : List ℕ → Option TableLineFault
first_line_fault line =
    if is_misquoted line then Some fault.Quote else columns_fault line (columns_of line)
