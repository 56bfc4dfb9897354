-- A row of a table of places.
use Rattle.vic_table.proofs.Words.{◌≡◌, ℕ, suc, Bool, true, false, not, Some, None, List, [], ◌∷◌, ◌++◌, length, refl, sym, ap, ◌∙◌, cond-false, eq-eqb, option_or, if◌then◌else◌, ◌==◌, ◌||◌}
use Rattle.std.specs.BTreeSet.{BTreeSet}
use Rattle.std.specs.declared.vec.Vec.{Vec}
use Rattle.std.proofs.Common.{Global}
use Rattle.vic_table.specs.Cells.{cells_of}
use Rattle.vic_table.specs.Columns.{separator_byte}
use Rattle.vic_table.specs.Contents.{is_blank, trimmed}
use Rattle.vic_table.specs.Lines.{bytes_fault}
use Rattle.vic_table.specs.Rows.{cell_at, is_blank_line, is_named, place_fault, place_row_of, place_line_fault, cells_place_fault, line_place_row, cells_place_row}
use Rattle.vic_table.specs.Values.{PlaceRowValue}
use Rattle.vic_table.specs.declared.columns.PlacesColumns.{PlacesColumns}
use Rattle.vic_table.specs.declared.fault.TableLineFault.TheVariants as fault
use Rattle.vic_table.specs.declared.fault.TableFault.{TableFault}
use Rattle.vic_table.specs.declared.fault.TableFault.TheVariants.{Line, Memory}
use Rattle.vic_table.specs.inner.Faults.{RefusesAt}
use Rattle.vic_table.specs.inner.Sets.{AreLogsOf, IsPlaceRowOf, TellsNewLog}

not_named : (b : Bool) → true ≡ not b → b ≡ false
not_named true e = cc
not_named false e = refl

no_fault : (a p l n : Bool) → a ≡ true → p ≡ false → l ≡ false → n ≡ false → (if not a then Some fault.Cells else (if p || l then Some fault.Place else (if n then Some fault.DuplicateLog else None))) ≡ None
no_fault a p l n ea ep el en = rw (ea, ep, el, en) refl

-- a row without a fault
pub place_row_done : (c : PlacesColumns) (before : List PlaceRowValue) (cells : List (List ℕ)) (number : ℕ) (row : PlaceRowValue) (set : BTreeSet (Vec ℕ Global))
    → length cells ≡ c.count → is_blank (cell_at cells c.place) ≡ false → is_blank (cell_at cells c.log) ≡ false → TellsNewLog before (trimmed (cell_at cells c.log)) true set
    → row.line ≡ number → row.place ≡ trimmed (cell_at cells c.place) → row.log ≡ trimmed (cell_at cells c.log)
    → (place_fault c before cells ≡ None) × (row ≡ place_row_of c number cells) × AreLogsOf (before ++ row ∷ []) set
place_row_done c before cells number row set size place log new l p g = (
  no_fault (length cells == c.count) (is_blank (cell_at cells c.place)) (is_blank (cell_at cells c.log)) (is_named before (trimmed (cell_at cells c.log))) (eq-eqb _ _ size) place log (not_named _ new.is_new),
  rw (l, p, g) refl,
  new.set_is refl row g,
)

-- ---- a line that is a row

module _ (c : PlacesColumns) (given : List PlaceRowValue) (line : List ℕ) (before : ℕ) (cells : List (List ℕ)) (split : cells_of (separator_byte c.separator) line ≡ Some cells) (full : is_blank_line cells ≡ false) (right : bytes_fault before line ≡ None) where
  fault_is : option_or (bytes_fault before line) (place_line_fault c given line) ≡ place_fault c given cells
  fault_is = ap (λ o. option_or o (place_line_fault c given line)) right ∙ (ap (cells_place_fault c given) split ∙ cond-false (is_blank_line cells) None (place_fault c given cells) full)

  row_is : line_place_row c (suc before) line ≡ place_row_of c (suc before) cells ∷ []
  row_is = ap (cells_place_row c (suc before)) split ∙ cond-false (is_blank_line cells) [] (place_row_of c (suc before) cells ∷ []) full

  pub place_refused : (e : TableFault) → RefusesAt (suc before) (place_fault c given cells) e → RefusesAt (suc before) (option_or (bytes_fault before line) (place_line_fault c given line)) e
  place_refused (Line n f) r = (r.0, fault_is ∙ r.1)
  place_refused Memory r = tt

  pub place_taken : (set : BTreeSet (Vec ℕ Global)) (row : PlaceRowValue) → place_fault c given cells ≡ None → row ≡ place_row_of c (suc before) cells
      → AreLogsOf (given ++ row ∷ []) set → IsPlaceRowOf c given before line set (Some row)
  place_taken set row none is s =
      let same : row ∷ [] ≡ line_place_row c (suc before) line = ap (λ r. r ∷ []) is ∙ sym row_is in
      record {
        no_fault = fault_is ∙ none;
        row_is = same;
        set_is = λ log. s log ∙ ap (λ rows. is_named (given ++ rows) log.items) same;
      }
