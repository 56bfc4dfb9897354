-- The table of a text, or its first fault.
use Rattle.std.specs.Prelude.{◌≡◌, ℕ, zero, suc, ◌<◌, ◌==◌, ⊤, if◌then◌else◌, Option, Some, None, List, [], ◌∷◌, ◌++◌, length, slice_get}
use Rattle.std.specs.Option.{option_and_then, option_or}
use Rattle.vic_table.specs.Columns.{columns_of, first_line_fault}
use Rattle.vic_table.specs.Lines.{table_lines, first_end, bytes_fault}
use Rattle.vic_table.specs.Rows.{item_line_fault, line_item, item_uids, place_line_fault, line_place_row}
use Rattle.vic_table.specs.Values.{ItemValue, PlaceRowValue, CatalogueValue}
use Rattle.vic_table.specs.declared.columns.CatalogueColumns.{CatalogueColumns}
use Rattle.vic_table.specs.declared.columns.PlacesColumns.{PlacesColumns}
use Rattle.vic_table.specs.declared.columns.Columns.{Columns}
use Rattle.vic_table.specs.declared.columns.Columns.TheVariants.{Catalogue, Places}
use Rattle.vic_table.specs.declared.fault.TableLineFault.{TableLineFault}
use Rattle.vic_table.specs.declared.fault.TableLineFault.TheVariants as fault
use Rattle.vic_table.specs.declared.fault.TableFault.{TableFault}
use Rattle.vic_table.specs.declared.fault.TableFault.TheVariants.{Line, Memory}
use Rattle.vic_table.specs.declared.read.Table.{Table}
use Rattle.vic_table.specs.declared.read.Table.TheVariants.{Catalogue as CatalogueTable, Places as PlacesTable}

-- lines are counted from 0 here, by how many are before; their numbers, from 1. So the line behind
-- `suc k` others has the number `suc (suc k)`, and the line behind none is the first, which names
-- columns

-- the item of the line behind n others, if it is a row
abbrev pub item_on : CatalogueColumns → ℕ → Option (List ℕ) → List ItemValue
item_on c zero line = []
item_on c (suc k) None = []
item_on c (suc k) (Some line) = line_item c (suc (suc k)) line

-- the items of the first n lines of a catalogue with these columns
abbrev pub items_upto : CatalogueColumns → List (List ℕ) → ℕ → List ItemValue
items_upto c lines zero = []
items_upto c lines (suc k) = items_upto c lines k ++ item_on c k (slice_get lines k)

-- the row of the line behind n others, in a table of places
abbrev pub place_row_on : PlacesColumns → ℕ → Option (List ℕ) → List PlaceRowValue
place_row_on c zero line = []
place_row_on c (suc k) None = []
place_row_on c (suc k) (Some line) = line_place_row c (suc (suc k)) line

-- the rows of the first n lines of a table of places with these columns
abbrev pub place_rows_upto : PlacesColumns → List (List ℕ) → ℕ → List PlaceRowValue
place_rows_upto c lines zero = []
place_rows_upto c lines (suc k) = place_rows_upto c lines k ++ place_row_on c k (slice_get lines k)

-- the columns that the first line names
abbrev pub columns_named : List (List ℕ) → Option Columns
columns_named lines = option_and_then columns_of (slice_get lines 0)

-- what is wrong with a line behind the first n, in a table with these columns
abbrev pub fault_by_columns : List (List ℕ) → ℕ → List ℕ → Option Columns → Option TableLineFault
fault_by_columns lines n line None = None
fault_by_columns lines n line (Some (Catalogue c)) =
    item_line_fault c (item_uids (items_upto c lines n)) line
fault_by_columns lines n line (Some (Places c)) =
    place_line_fault c (place_rows_upto c lines n) line

-- what is wrong with the cells of the line behind the first n
abbrev pub line_fault : List (List ℕ) → ℕ → List ℕ → Option TableLineFault
line_fault lines zero line = first_line_fault line
line_fault lines (suc k) line = fault_by_columns lines (suc k) line (columns_named lines)

-- what is wrong with these items of a complete catalogue
abbrev pub items_fault : List ItemValue → Option TableLineFault
items_fault [] = Some fault.NoItems
items_fault (item ∷ items) = None

-- what is wrong with the rows of a complete table: a catalogue needs an item
abbrev pub rows_fault : List (List ℕ) → Option Columns → Option TableLineFault
rows_fault lines None = None
rows_fault lines (Some (Catalogue c)) = items_fault (items_upto c lines (length lines))
rows_fault lines (Some (Places c)) = None

-- what is wrong behind n lines where no more follow
abbrev pub end_fault : List (List ℕ) → ℕ → Option TableLineFault
end_fault lines zero = Some fault.Columns
end_fault lines (suc k) =
    if suc k == length lines then rows_fault lines (columns_named lines) else None

-- what is wrong with the line behind the first n, or with the end if there is none
abbrev pub fault_of : List (List ℕ) → ℕ → Option (List ℕ) → Option TableLineFault
fault_of lines n None = end_fault lines n
fault_of lines n (Some line) = option_or (bytes_fault n line) (line_fault lines n line)

-- the first fault of the line behind the first n
abbrev pub fault_behind : List (List ℕ) → ℕ → Option TableLineFault
fault_behind lines n = fault_of lines n (slice_get lines n)

-- no line has a fault, nor does the end
abbrev pub HasNoFault : List (List ℕ) → Type 0
HasNoFault lines = (n : ℕ) → fault_behind lines n ≡ None

-- the line with this number is the first that has a fault, and f is its first
pub record IsFirstFault (lines : List (List ℕ)) (number : ℕ) (f : TableLineFault) : Type 0 where
  pub before : ℕ
  pub number_is : number ≡ suc before
  pub here : fault_behind lines before ≡ Some f
  pub first : (m : ℕ) → m < before → fault_behind lines m ≡ None

-- the catalogue of a text
pub record IsCatalogueOf (text : List ℕ) (catalogue : CatalogueValue) : Type 0 where
  pub no_fault : HasNoFault (table_lines text)
  pub columns : columns_named (table_lines text) ≡ Some (Catalogue catalogue.columns)
  pub items : catalogue.items
      ≡ items_upto catalogue.columns (table_lines text) (length (table_lines text))
  pub text_is : catalogue.text ≡ text
  pub head : slice_get (table_lines text) 0 ≡ Some catalogue.head
  pub head_end : catalogue.head_end ≡ first_end text

-- the rows of a table of places
pub record ArePlacesOf (text : List ℕ) (rows : List PlaceRowValue) : Type 0 where
  pub no_fault : HasNoFault (table_lines text)
  pub columns : PlacesColumns
  pub columns_are : columns_named (table_lines text) ≡ Some (Places columns)
  pub rows_are : rows ≡ place_rows_upto columns (table_lines text) (length (table_lines text))

-- the catalogue of a text, or the places of one
abbrev pub IsTableOfText : List ℕ → Table → Type 0
IsTableOfText text (CatalogueTable catalogue) = IsCatalogueOf text catalogue
IsTableOfText text (PlacesTable rows) = ArePlacesOf text rows

-- why a text has no table: its first fault, or refused memory
abbrev pub Refuses : List ℕ → TableFault → Type 0
Refuses text (Line number f) = IsFirstFault (table_lines text) number f
Refuses text Memory = ⊤
