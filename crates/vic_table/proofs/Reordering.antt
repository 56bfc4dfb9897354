-- The same rows of the same lines in another order.
use Rattle.vic_table.proofs.Words.{◌≡◌, ℕ, suc, Bool, true, false, Option, Some, None, List, [], ◌∷◌, ◌++◌, length, map, refl, sym, ap, ◌∙◌, if◌then◌else◌}
use Rattle.std.specs.List.{sum_by}
use Rattle.std.proofs.lemmas.List.Sorted.{sum_by-IsPermutation}
use Rattle.vic_table.proofs.Counting.{passing, Adds, passing_all}
use Rattle.vic_table.specs.Cells.{cells_of}
use Rattle.vic_table.specs.Columns.{separator_byte}
use Rattle.vic_table.specs.Lines.{table_lines}
use Rattle.vic_table.specs.Rows.{is_blank_line, item_of, line_item, cells_item, place_row_of, line_place_row, cells_place_row}
use Rattle.vic_table.specs.Reordered.{unnumbered, unnumbered_row, AreReordered, OrderIsFree, OrderOfPlacesIsFree}
use Rattle.vic_table.specs.Table.{columns_named, item_on, items_upto, place_row_on, place_rows_upto}
use Rattle.vic_table.specs.declared.columns.CatalogueColumns.{CatalogueColumns}
use Rattle.vic_table.specs.declared.columns.PlacesColumns.{PlacesColumns}
use Rattle.vic_table.specs.declared.columns.Columns.{Columns}
use Rattle.vic_table.specs.declared.columns.Columns.TheVariants.{Catalogue, Places}

same_if : {A : Type 0} (b : Bool) (bare : A → A) (x y : A) → bare x ≡ bare y → map bare (if b then [] else x ∷ []) ≡ map bare (if b then [] else y ∷ [])
same_if true bare x y e = refl
same_if false bare x y e = ap (λ z. z ∷ []) e

pub items_add : (c : CatalogueColumns) → Adds unnumbered (line_item c) (items_upto c)
items_add c = record {
  same = λ n line. same n line (cells_of (separator_byte c.separator) line);
  none = λ lines. refl;
  more = λ lines n line at. ap (λ o. items_upto c lines (suc n) ++ item_on c (suc n) o) at;
} where
  same : (n : ℕ) (line : List ℕ) (o : Option (List (List ℕ))) → map unnumbered (cells_item c n line o) ≡ map unnumbered (cells_item c 0 line o)
  same n line None = refl
  same n line (Some cells) = same_if (is_blank_line cells) unnumbered (item_of c n line cells) (item_of c 0 line cells) refl

pub places_add : (c : PlacesColumns) → Adds unnumbered_row (line_place_row c) (place_rows_upto c)
places_add c = record {
  same = λ n line. same n (cells_of (separator_byte c.separator) line);
  none = λ lines. refl;
  more = λ lines n line at. ap (λ o. place_rows_upto c lines (suc n) ++ place_row_on c (suc n) o) at;
} where
  same : (n : ℕ) (o : Option (List (List ℕ))) → map unnumbered_row (cells_place_row c n o) ≡ map unnumbered_row (cells_place_row c 0 o)
  same n None = refl
  same n (Some cells) = same_if (is_blank_line cells) unnumbered_row (place_row_of c n cells) (place_row_of c 0 cells) refl

-- the rows of lines, and those of the lines in another order
module _ {A : Type 0} (bare : A → A) (row : ℕ → List ℕ → List A) (upto : List (List ℕ) → ℕ → List A) (a : Adds bare row upto) (test : A → Bool) (lines others : List (List ℕ)) (r : AreReordered lines others) where
  abbrev of_line : List ℕ → ℕ
  of_line line = passing bare test (row 0 line)

  passing_in : (lines rest : List (List ℕ)) → lines ≡ r.head ∷ rest → passing bare test (upto lines (length lines)) ≡ sum_by of_line rest
  passing_in lines rest e = ap (λ ls. passing bare test (upto ls (length ls))) e ∙ passing_all bare row upto a test r.head rest

  pub passing_same : passing bare test (upto lines (length lines)) ≡ passing bare test (upto others (length others))
  passing_same = passing_in lines r.rest r.lines_are ∙ (sym (sum_by-IsPermutation of_line r.rest r.moved r.same) ∙ sym (passing_in others r.moved r.others_are))

-- the columns of both
pub columns_same : (lines others : List (List ℕ)) → AreReordered lines others → columns_named others ≡ columns_named lines
columns_same lines others r = ap columns_named r.others_are ∙ sym (ap columns_named r.lines_are)

same_catalogue : (c d : CatalogueColumns) (o p : Option Columns) → o ≡ Some (Catalogue c) → p ≡ Some (Catalogue d) → p ≡ o → d ≡ c
same_catalogue c d o p e f g = let both = sym f ∙ (g ∙ e) in cc

same_places : (c d : PlacesColumns) (o p : Option Columns) → o ≡ Some (Places c) → p ≡ Some (Places d) → p ≡ o → d ≡ c
same_places c d o p e f g = let both = sym f ∙ (g ∙ e) in cc

pub items_same : OrderIsFree
items_same text other catalogue reordered is also r test =
    let c = catalogue.columns in
    let same = same_catalogue c reordered.columns _ _ is.columns also.columns (columns_same (table_lines text) (table_lines other) r) in
    let items_too : reordered.items ≡ items_upto c (table_lines other) (length (table_lines other)) = also.items ∙ ap (λ d. items_upto d (table_lines other) (length (table_lines other))) same in
    ap (passing unnumbered test) is.items
    ∙ (passing_same unnumbered (line_item c) (items_upto c) (items_add c) test (table_lines text) (table_lines other) r
    ∙ sym (ap (passing unnumbered test) items_too))

pub places_same : OrderOfPlacesIsFree
places_same text other rows reordered are also r test =
    let c = are.columns in
    let same = same_places c also.columns _ _ are.columns_are also.columns_are (columns_same (table_lines text) (table_lines other) r) in
    let rows_too : reordered ≡ place_rows_upto c (table_lines other) (length (table_lines other)) = also.rows_are ∙ ap (λ d. place_rows_upto d (table_lines other) (length (table_lines other))) same in
    ap (passing unnumbered_row test) are.rows_are
    ∙ (passing_same unnumbered_row (line_place_row c) (place_rows_upto c) (places_add c) test (table_lines text) (table_lines other) r
    ∙ sym (ap (passing unnumbered_row test) rows_too))
