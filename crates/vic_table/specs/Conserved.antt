-- Each UID of a catalogue is the UID of one item.
use Rattle.std.specs.Prelude.{◌≡◌, ℕ, suc, true, Option, Some, None, List, [], ◌∷◌, ◌++◌, slice_get}
use Rattle.std.specs.List.{filter_map}
use Rattle.vic_frame.specs.Uids.{has, AreDifferent}
use Rattle.vic_table.specs.Cells.{cells_of}
use Rattle.vic_table.specs.Columns.{separator_byte}
use Rattle.vic_table.specs.Contents.{hex_runs, hex_uid, spelled_uid}
use Rattle.vic_table.specs.Lines.{table_lines}
use Rattle.vic_table.specs.Rows.{item_uids}
use Rattle.vic_table.specs.Table.{IsCatalogueOf}
use Rattle.vic_table.specs.Values.{ItemValue, CatalogueValue}
use Rattle.vic_table.specs.declared.columns.CatalogueColumns.{CatalogueColumns}

abbrev pub as_list : Option ℕ → List ℕ
as_list None = []
as_list (Some u) = u ∷ []

-- the UIDs that a cell has, and the one that it spells
abbrev pub told_uids : List ℕ → List ℕ
told_uids cell = filter_map hex_uid (hex_runs cell) ++ as_list (spelled_uid cell)

-- a cell of the line behind the first n has or spells the UID
pub record IsInCell (c : CatalogueColumns) (lines : List (List ℕ)) (n u : ℕ) : Type 0 where
  pub line : List ℕ
  pub there : slice_get lines n ≡ Some line
  pub cells : List (List ℕ)
  pub split : cells_of (separator_byte c.separator) line ≡ Some cells
  pub index : ℕ
  pub cell : List ℕ
  pub in_it : slice_get cells index ≡ Some cell
  pub told : has (told_uids cell) u ≡ true

-- the item of that line has the UID
pub record IsInItem (items : List ItemValue) (n u : ℕ) : Type 0 where
  pub index : ℕ
  pub item : ItemValue
  pub there : slice_get items index ≡ Some item
  pub line_is : item.line ≡ suc n
  pub uid_is : item.uid ≡ Some u

-- the UIDs of items are exactly those that cells have or spell, each in its item's line, and no two
-- items have the same
pub record IsConserved (lines : List (List ℕ)) (catalogue : CatalogueValue) : Type 0 where
  pub told : (n u : ℕ) → IsInCell catalogue.columns lines n u → IsInItem catalogue.items n u
  pub kept : (n u : ℕ) → IsInItem catalogue.items n u → IsInCell catalogue.columns lines n u
  pub once : AreDifferent (item_uids catalogue.items)

-- that, of each catalogue
abbrev pub UidsAreConserved : Type 0
UidsAreConserved = (text : List ℕ) (catalogue : CatalogueValue) → IsCatalogueOf text catalogue
    → IsConserved (table_lines text) catalogue
