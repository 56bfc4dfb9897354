-- A whole text: its first line, and the lines that follow.
use Rattle.vic_table.proofs.Words.{◌≡◌, ℕ, zero, suc, ◌<◌, Some, None, List, ◌∷◌, length, drop, slice_get, refl, sym, ap, subst, ◌∙◌, arith, option_or, lines_of_text, cut}
use Rattle.std.specs.Prelude.{slice_range}
use Rattle.vic_table.specs.Columns.{columns_of, first_line_fault}
use Rattle.vic_table.specs.Lines.{bytes_fault, without_mark, table_lines, end_of_first}
use Rattle.vic_table.specs.Table.{HasNoFault, IsCatalogueOf, ArePlacesOf, Refuses, fault_behind, items_upto, place_rows_upto}
use Rattle.vic_table.specs.Values.{ItemValue, PlaceRowValue}
use Rattle.vic_table.specs.declared.columns.CatalogueColumns.{CatalogueColumns}
use Rattle.vic_table.specs.declared.columns.PlacesColumns.{PlacesColumns}
use Rattle.vic_table.specs.declared.columns.Columns.{Columns}
use Rattle.vic_table.specs.declared.columns.Columns.TheVariants.{Catalogue, Places}
use Rattle.vic_table.specs.declared.fault.TableFault.{TableFault}
use Rattle.vic_table.specs.declared.fault.TableFault.TheVariants.{Line, Memory}
use Rattle.vic_table.specs.declared.lines.LineAt.{LineAt}
use Rattle.vic_table.specs.inner.Reading.{IsLineAt, FollowsFirst, RefusesLines}

pub refuses_text : (text : List ℕ) (e : TableFault) → RefusesLines (table_lines text) e → Refuses text e
refuses_text text (Line n f) r = r
refuses_text text Memory r = tt

module _ (text : List ℕ) (start : ℕ) (head : LineAt) (l : IsLineAt text start head) (marked : drop start text ≡ without_mark text) where
  lines_are : table_lines text ≡ slice_range text head.start head.end ∷ lines_of_text (drop head.next text)
  lines_are = ap lines_of_text (sym marked) ∙ l.lines

  pub follows : (c : Columns) → columns_of (slice_range text head.start head.end) ≡ Some c
      → option_or (bytes_fault 0 (slice_range text head.start head.end)) (first_line_fault (slice_range text head.start head.end)) ≡ None
      → FollowsFirst (table_lines text) c (drop head.next text)
  follows c named none = subst P (sym lines_are) (record {
    first = record { clean = λ m low. first_clean m low; read = omega arith; rest_is = refl };
    columns_are = named;
  }) where
    lines : List (List ℕ)
    lines = slice_range text head.start head.end ∷ lines_of_text (drop head.next text)

    P : List (List ℕ) → Type 0
    P ls = FollowsFirst ls c (drop head.next text)

    first_clean : (m : ℕ) → m < 1 → fault_behind (slice_range text head.start head.end ∷ lines_of_text (drop head.next text)) m ≡ None
    first_clean zero low = none
    first_clean (suc k) low = absurd (omega arith)

  pub catalogue_whole : (c : CatalogueColumns) (items : List ItemValue) → FollowsFirst (table_lines text) (Catalogue c) (drop head.next text)
      → HasNoFault (table_lines text) × (items ≡ items_upto c (table_lines text) (length (table_lines text)))
      → IsCatalogueOf text (record { text = text; head = slice_range text head.start head.end; head_end = slice_range text head.end head.next; columns = c; items = items })
  catalogue_whole c items f r = record {
    no_fault = r.0;
    columns = f.columns_are;
    items = r.1;
    text_is = refl;
    head = ap (λ ls. slice_get ls 0) lines_are;
    head_end = sym l.end_is ∙ ap (λ bytes. end_of_first (cut bytes)) marked;
  }

  pub places_whole : (c : PlacesColumns) (rows : List PlaceRowValue) → FollowsFirst (table_lines text) (Places c) (drop head.next text)
      → HasNoFault (table_lines text) × (rows ≡ place_rows_upto c (table_lines text) (length (table_lines text)))
      → ArePlacesOf text rows
  places_whole c rows f r = record { no_fault = r.0; columns = c; columns_are = f.columns_are; rows_are = r.1 }
