-- What a table says.
use Rattle.std.specs.Prelude.{ℕ, Bool, Option, List}
use Rattle.vic_table.specs.declared.columns.CatalogueColumns.{CatalogueColumns}

-- an item: the number of its line, that line without its end, its UID if it has a tag, its place
-- if it belongs somewhere, and whether it is away
pub record ItemValue : Type 0 where
  pub line : ℕ
  pub row : List ℕ
  pub uid : Option ℕ
  pub place : Option (List ℕ)
  pub away : Bool

-- a row of a table of places: the number of its line, and that a log is of a place
pub record PlaceRowValue : Type 0 where
  pub line : ℕ
  pub place : List ℕ
  pub log : List ℕ

-- a catalogue: its text, its first line and that line's end, its columns and its items
pub record CatalogueValue : Type 0 where
  pub text : List ℕ
  pub head : List ℕ
  pub head_end : List ℕ
  pub columns : CatalogueColumns
  pub items : List ItemValue
