-- A text without a fault has none where its lines behind the first are in another order.
use Rattle.vic_table.proofs.Words.{◌≡◌, ℕ, zero, suc, ◌≤◌, Bool, true, false, Option, Some, None, List, [], ◌∷◌, length, slice_get, refl, sym, ap, subst, ◌∙◌, arith, option_or, slice_get_past, cond-true, eq-eqb, ◌==◌, if◌then◌else◌}
use Rattle.std.specs.List.Sorted.{IsPermutation}
use Rattle.vic_table.proofs.Clashing.{has_uid_of, has_log, items_clash, places_clash, passing-cons}
use Rattle.vic_table.proofs.Counting.{passing}
use Rattle.vic_table.proofs.Faultless.{none_of_two, if_none}
use Rattle.vic_table.proofs.Moving.{clean_moved}
use Rattle.vic_table.proofs.Reordering.{items_add, places_add, passing_same}
use Rattle.vic_table.specs.Columns.{columns_of, columns_fault, first_line_fault, is_misquoted}
use Rattle.vic_table.specs.Lines.{bytes_fault}
use Rattle.vic_table.specs.Reordered.{unnumbered, unnumbered_row, AreReordered, OrderMakesNoFault}
use Rattle.vic_table.specs.Rows.{line_item, item_line_fault, item_uids, line_place_row, place_line_fault}
use Rattle.vic_table.specs.Table.{HasNoFault, fault_behind, fault_of, fault_by_columns, rows_fault, items_fault, items_upto, place_rows_upto}
use Rattle.vic_table.specs.Values.{ItemValue}
use Rattle.vic_table.specs.declared.columns.Columns.{Columns}
use Rattle.vic_table.specs.declared.columns.Columns.TheVariants.{Catalogue, Places}
use Rattle.vic_table.specs.declared.fault.TableLineFault.{TableLineFault}
use Rattle.vic_table.specs.declared.fault.TableLineFault.TheVariants as fault

-- ---- a text without a fault: its first line, the lines behind it, and its end

-- the lines behind the first have no fault, in a table with these columns
abbrev AreClean : List ℕ → Option Columns → List (List ℕ) → Type 0
AreClean head o rest = (n : ℕ) (line : List ℕ) → slice_get rest n ≡ Some line → option_or (bytes_fault (suc n) line) (fault_by_columns (head ∷ rest) (suc n) line o) ≡ None

record IsClean (head : List ℕ) (rest : List (List ℕ)) : Type 0 where
  pub first : option_or (bytes_fault 0 head) (first_line_fault head) ≡ None
  pub behind : AreClean head (columns_of head) rest
  pub end : rows_fault (head ∷ rest) (columns_of head) ≡ None

clean_from : (head : List ℕ) (rest : List (List ℕ)) → HasNoFault (head ∷ rest) → IsClean head rest
clean_from head rest none = record {
  first = none 0;
  behind = λ n line at. sym (ap (fault_of (head ∷ rest) (suc n)) at) ∙ none (suc n);
  end = sym at_end ∙ none (suc (length rest));
} where
  at_end : fault_behind (head ∷ rest) (suc (length rest)) ≡ rows_fault (head ∷ rest) (columns_of head)
  at_end =
      ap (fault_of (head ∷ rest) (suc (length rest))) (slice_get_past rest (length rest) (omega arith))
      ∙ cond-true (suc (length rest) == length (head ∷ rest)) (rows_fault (head ∷ rest) (columns_of head)) None (eq-eqb (suc (length rest)) (length (head ∷ rest)) (omega arith))

none_from : (head : List ℕ) (rest : List (List ℕ)) → IsClean head rest → HasNoFault (head ∷ rest)
none_from head rest c zero = c.first
none_from head rest c (suc n) = go (slice_get rest n) refl where
  at_end : (b : Bool) (o : Option TableLineFault) → o ≡ None → (if b then o else None) ≡ None
  at_end true o e = e
  at_end false o e = refl

  go : (o : Option (List ℕ)) → slice_get rest n ≡ o → fault_of (head ∷ rest) (suc n) o ≡ None
  go None at = at_end (suc n == length (head ∷ rest)) (rows_fault (head ∷ rest) (columns_of head)) c.end
  go (Some line) at = c.behind n line at

-- ---- in another order

module _ (head : List ℕ) (rest moved : List (List ℕ)) (m : IsPermutation rest moved) where
  behind_moved : (o : Option Columns) → columns_fault head o ≡ None → AreClean head o rest → AreClean head o moved
  behind_moved None named clean = cc
  behind_moved (Some (Catalogue c)) named clean =
      clean_moved unnumbered (line_item c) (items_upto c) has_uid_of (λ items line. item_line_fault c (item_uids items) line) (items_add c) (items_clash c) head rest moved m clean
  behind_moved (Some (Places c)) named clean =
      clean_moved unnumbered_row (line_place_row c) (place_rows_upto c) has_log (place_line_fault c) (places_add c) (places_clash c) head rest moved m clean

  r : AreReordered (head ∷ rest) (head ∷ moved)
  r = record { head = head; rest = rest; moved = moved; lines_are = refl; others_are = refl; same = m }

  some_items : (items : List ItemValue) → items_fault items ≡ None → 1 ≤ passing unnumbered (λ _. true) items
  some_items [] h = cc
  some_items (item ∷ items) h = let e = passing-cons unnumbered (λ _. true) item items in omega arith

  items_there : (items : List ItemValue) → 1 ≤ passing unnumbered (λ _. true) items → items_fault items ≡ None
  items_there [] h = absurd (omega arith)
  items_there (item ∷ items) h = refl

  end_moved : (o : Option Columns) → rows_fault (head ∷ rest) o ≡ None → rows_fault (head ∷ moved) o ≡ None
  end_moved None e = refl
  end_moved (Some (Places c)) e = refl
  end_moved (Some (Catalogue c)) e =
      let some = some_items (items_upto c (head ∷ rest) (length (head ∷ rest))) e in
      let same = passing_same unnumbered (line_item c) (items_upto c) (items_add c) (λ _. true) (head ∷ rest) (head ∷ moved) r in
      items_there (items_upto c (head ∷ moved) (length (head ∷ moved))) (omega arith)

  moved_clean : IsClean head rest → IsClean head moved
  moved_clean c = record {
    first = c.first;
    behind = behind_moved (columns_of head) (if_none (is_misquoted head) fault.Quote (columns_fault head (columns_of head)) (none_of_two (bytes_fault 0 head) (first_line_fault head) c.first).1).1 c.behind;
    end = end_moved (columns_of head) c.end;
  }

pub no_fault : OrderMakesNoFault
no_fault lines others r none =
    subst HasNoFault (sym r.others_are)
    (none_from r.head r.moved (moved_clean r.head r.rest r.moved r.same (clean_from r.head r.rest (subst HasNoFault r.lines_are none))))
