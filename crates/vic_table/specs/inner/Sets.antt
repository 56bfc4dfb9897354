-- Sets that tell whether a UID or a log was named before, and a line taken after those.
use Rattle.std.specs.Prelude.{◌≡◌, ℕ, suc, Bool, true, not, Option, None, List, [], ◌∷◌, ◌++◌}
use Rattle.std.specs.BTreeSet.{BTreeSet, contains}
use Rattle.std.specs.Cmp.Lexicographic.{slice_cmp}
use Rattle.std.specs.Option.{option_or}
use Rattle.std.specs.Ordering.{nat_cmp}
use Rattle.std.specs.declared.vec.Vec.{Vec}
use Rattle.vic_frame.specs.Uids.{has}
use Rattle.vic_table.specs.Conserved.{as_list}
use Rattle.vic_table.specs.Lines.{bytes_fault}
use Rattle.vic_table.specs.Rows.{is_given, is_named, item_uids, item_line_fault, line_item, place_line_fault, line_place_row}
use Rattle.vic_table.specs.Values.{PlaceRowValue}
use Rattle.vic_table.specs.declared.columns.CatalogueColumns.{CatalogueColumns}
use Rattle.vic_table.specs.declared.columns.PlacesColumns.{PlacesColumns}
use Rattle.vic_table.specs.declared.item_list.Item.{Item}
use Rattle.vic_table.specs.inner.Kept.{item_or_none, row_or_none}

-- ---- UIDs

abbrev pub IsSetOf : List ℕ → BTreeSet ℕ → Type 0
IsSetOf uids set = (u : ℕ) → contains nat_cmp set u ≡ has uids u

-- whether a row's UID is new after others, and the set with it if it is
pub record TellsNew (before : List ℕ) (uid : Option ℕ) (new : Bool) (set : BTreeSet ℕ)
    : Type 0 where
  pub is_new : new ≡ not (is_given before uid)
  pub set_is : new ≡ true → IsSetOf (before ++ as_list uid) set

-- the line behind so many lines has no fault, this is its item, and this set has its UID too
pub record IsItemOf (c : CatalogueColumns) (given : List ℕ) (before : ℕ) (text line : List ℕ)
    (set : BTreeSet ℕ) (item : Option Item) : Type 0 where
  pub no_fault : option_or (bytes_fault before line) (item_line_fault c given line) ≡ None
  pub item_is : item_or_none text item ≡ line_item c (suc before) line
  pub set_is : IsSetOf (given ++ item_uids (line_item c (suc before) line)) set

-- ---- logs

module _ {A : Type 0} where
  abbrev pub AreLogsOf : List PlaceRowValue → BTreeSet (Vec ℕ A) → Type 0
  AreLogsOf before set = (log : Vec ℕ A)
      → contains (λ x y. slice_cmp nat_cmp x.items y.items) set log ≡ is_named before log.items

  -- whether a log is new after others, and the set with it if it is
  pub record TellsNewLog (before : List PlaceRowValue) (log : List ℕ) (new : Bool)
      (set : BTreeSet (Vec ℕ A)) : Type 0 where
    pub is_new : new ≡ not (is_named before log)
    pub set_is : new ≡ true → (row : PlaceRowValue) → row.log ≡ log
        → AreLogsOf (before ++ row ∷ []) set

  -- the line behind so many lines has no fault, this is its row, and this set has its log too
  pub record IsPlaceRowOf (c : PlacesColumns) (given : List PlaceRowValue) (before : ℕ)
      (line : List ℕ) (set : BTreeSet (Vec ℕ A)) (row : Option PlaceRowValue) : Type 0 where
    pub no_fault : option_or (bytes_fault before line) (place_line_fault c given line) ≡ None
    pub row_is : row_or_none row ≡ line_place_row c (suc before) line
    pub set_is : AreLogsOf (given ++ line_place_row c (suc before) line) set
