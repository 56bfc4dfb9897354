-- The order of a table's lines.
use Rattle.std.specs.Prelude.{◌≡◌, ℕ, Bool, List, ◌∷◌, map, count_by}
use Rattle.std.specs.List.Sorted.{IsPermutation}
use Rattle.vic_table.specs.Lines.{table_lines}
use Rattle.vic_table.specs.Table.{HasNoFault, IsCatalogueOf, ArePlacesOf}
use Rattle.vic_table.specs.Values.{ItemValue, PlaceRowValue, CatalogueValue}

-- an item, or a row of a table of places, without the number of its line
abbrev pub unnumbered : ItemValue → ItemValue
unnumbered item = record item { line = 0 }

abbrev pub unnumbered_row : PlaceRowValue → PlaceRowValue
unnumbered_row row = record row { line = 0 }

-- the same first line, and the same others in another order
pub record AreReordered (lines others : List (List ℕ)) : Type 0 where
  pub head : List ℕ
  pub rest : List (List ℕ)
  pub moved : List (List ℕ)
  pub lines_are : lines ≡ head ∷ rest
  pub others_are : others ≡ head ∷ moved
  pub same : IsPermutation rest moved

-- lines without a fault have none in another order either
abbrev pub OrderMakesNoFault : Type 0
OrderMakesNoFault = (lines others : List (List ℕ)) → AreReordered lines others
    → HasNoFault lines → HasNoFault others

-- two catalogues of the same lines in another order have the same items but for their numbers: as
-- many pass any test
abbrev pub OrderIsFree : Type 0
OrderIsFree = (text other : List ℕ) (catalogue reordered : CatalogueValue)
    → IsCatalogueOf text catalogue → IsCatalogueOf other reordered
    → AreReordered (table_lines text) (table_lines other) → (test : ItemValue → Bool)
    → count_by test (map unnumbered catalogue.items)
    ≡ count_by test (map unnumbered reordered.items)

-- and two tables of places the same rows
abbrev pub OrderOfPlacesIsFree : Type 0
OrderOfPlacesIsFree = (text other : List ℕ) (rows reordered : List PlaceRowValue)
    → ArePlacesOf text rows → ArePlacesOf other reordered
    → AreReordered (table_lines text) (table_lines other) → (test : PlaceRowValue → Bool)
    → count_by test (map unnumbered_row rows) ≡ count_by test (map unnumbered_row reordered)
