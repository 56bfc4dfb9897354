-- The first line under the third separator.
use Rattle.vic_table.proofs.Words.{◌≡◌, ℕ, List, Bool, false, ◌&&◌, Option, Some, None, Result, Ok, Err, MatchResult, is_none, option_or, option_and_then, refl, sym, ap, ap₂, ◌∙◌, cond-false, arith, nat_tests}
use Rattle.vic_table.specs.Cells.{cells_of}
use Rattle.vic_table.specs.Columns.{separator_byte, columns_under, columns_of, first_cells, columns_fault, is_misquoted, names_fault, first_line_fault}
use Rattle.vic_table.specs.declared.fault.TableLineFault.TheVariants as fault
use Rattle.vic_table.specs.declared.columns.Columns.{Columns}
use Rattle.vic_table.specs.declared.columns.Separator.{Separator}
use Rattle.vic_table.specs.declared.columns.Separator.TheVariants.{Comma, Semicolon, Tab}
use Rattle.vic_table.specs.declared.columns.Head.{Head}
use Rattle.vic_table.specs.declared.columns.Head.TheVariants.{Misquoted, Unnamed, Named}
use Rattle.vic_table.specs.declared.fault.TableFault.{TableFault}
use Rattle.vic_table.specs.declared.fault.TableFault.TheVariants.{Line, Memory}
use Rattle.vic_table.specs.inner.Faults.{RefusesAt}
use Rattle.vic_table.specs.inner.Head.{IsHead}

pub unnamed : (line : List ℕ) (separator : Separator) (cells : List (List ℕ)) (u : Head) → IsHead line separator cells u → ((c : Columns) → u ≡ Named c → ⊥) → columns_under line separator ≡ None
unnamed line separator cells Misquoted is not_named = grind (arith, nat_tests)
unnamed line separator cells Unnamed is not_named = is.1
unnamed line separator cells (Named c) is not_named = absurd (not_named c refl)

pub record IsThird (line : List ℕ) (cells : List (List ℕ)) (c : Columns) : Type 0 where
  pub columns_is : columns_of line ≡ Some c
  pub fault_is : first_line_fault line ≡ names_fault c cells

not_misquoted : (a b : Bool) (o : Option (List (List ℕ))) (cells : List (List ℕ)) → o ≡ Some cells → (a && b && is_none o) ≡ false
not_misquoted a b o cells e = grind (arith, nat_tests)

pub third : (line : List ℕ) (cells : List (List ℕ)) (c : Columns) → columns_under line Comma ≡ None → columns_under line Semicolon ≡ None → IsHead line Tab cells (Named c) → IsThird line cells c
third line cells c comma semicolon is =
    let columns_is : columns_of line ≡ Some c = ap₂ (λ a b. option_or a (option_or b (columns_under line Tab))) comma semicolon ∙ is.1 in
    let right = not_misquoted (is_none (cells_of (separator_byte Comma) line)) (is_none (cells_of (separator_byte Semicolon) line)) (cells_of (separator_byte Tab) line) cells is.0 in
    let same : first_cells line c ≡ Some cells = ap (λ t. cells_of (separator_byte t) line) is.2 ∙ is.0 in
    record {
      columns_is = columns_is;
      fault_is = cond-false (is_misquoted line) (Some fault.Quote) (columns_fault line (columns_of line)) right
          ∙ (ap (columns_fault line) columns_is ∙ ap (option_and_then (names_fault c)) same);
    }

-- what is answered under the third separator
pub answered : (line : List ℕ) (cells : List (List ℕ)) (c : Columns) (u : Head) → columns_under line Comma ≡ None → columns_under line Semicolon ≡ None → IsHead line Tab cells u → u ≡ Named c
    → (r : Result Columns TableFault) → MatchResult r (λ d. (d ≡ c) × (names_fault c cells ≡ None)) (RefusesAt 1 (names_fault c cells))
    → MatchResult r (λ d. (columns_of line ≡ Some d) × (first_line_fault line ≡ None)) (RefusesAt 1 (first_line_fault line))
answered line cells c u comma semicolon is named r h = go r h where
  t : IsThird line cells c
  t = third line cells c comma semicolon (rw named at is)

  go : (r : Result Columns TableFault) → MatchResult r (λ d. (d ≡ c) × (names_fault c cells ≡ None)) (RefusesAt 1 (names_fault c cells))
      → MatchResult r (λ d. (columns_of line ≡ Some d) × (first_line_fault line ≡ None)) (RefusesAt 1 (first_line_fault line))
  go (Ok d) h = (t.columns_is ∙ ap Some (sym h.0), t.fault_is ∙ h.1)
  go (Err (Line n f)) h = (h.0, t.fault_is ∙ h.1)
  go (Err Memory) h = tt
