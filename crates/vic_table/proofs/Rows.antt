-- A row's faults in the order of the code, and a line that is a row.
use Rattle.vic_table.proofs.Words.{◌≡◌, ℕ, suc, Bool, true, false, not, Option, Some, None, List, [], ◌∷◌, ◌++◌, length, refl, sym, ap, subst, ◌∙◌, cond-false, cond-true, option_or, if◌then◌else◌, ◌==◌, append-nil, has, option_map}
use Rattle.std.specs.Prelude.{codes, slice_range}
use Rattle.std.specs.BTreeSet.{BTreeSet}
use Rattle.vic_table.specs.Conserved.{as_list}
use Rattle.vic_table.specs.Cells.{cells_of}
use Rattle.vic_table.specs.Columns.{separator_byte, tells_elsewhere}
use Rattle.vic_table.specs.Contents.{spelled_uid}
use Rattle.vic_table.specs.Lines.{bytes_fault}
use Rattle.vic_table.specs.Rows.{cell_at, is_wrong_uid, is_given, is_blank_line, is_word_at, place_at, item_fault, item_of, item_line_fault, cells_item_fault, line_item, cells_item, item_uids}
use Rattle.vic_table.specs.declared.columns.CatalogueColumns.{CatalogueColumns}
use Rattle.vic_table.specs.declared.fault.TableLineFault.{TableLineFault}
use Rattle.vic_table.specs.declared.fault.TableLineFault.TheVariants as fault
use Rattle.vic_table.specs.declared.fault.TableFault.{TableFault}
use Rattle.vic_table.specs.declared.fault.TableFault.TheVariants.{Line, Memory}
use Rattle.vic_table.specs.declared.item_list.Item.{Item}
use Rattle.vic_table.specs.inner.Faults.{RefusesAt, shape_fault, place_or_away_fault}
use Rattle.vic_table.specs.inner.Kept.{item_value}
use Rattle.vic_table.specs.inner.Sets.{IsSetOf, IsItemOf, TellsNew}

in_parts : (a b d : Bool) (x y z : TableLineFault) (o : Option TableLineFault) → (if a then Some x else (if b then Some y else (if d then Some z else o))) ≡ option_or (if a then Some x else (if b then Some y else (if d then Some z else None))) o
in_parts true b d x y z o = refl
in_parts false true d x y z o = refl
in_parts false false true x y z o = refl
in_parts false false false x y z o = refl

-- the faults behind the shape
abbrev pub behind_shape : CatalogueColumns → List ℕ → List (List ℕ) → Option TableLineFault
behind_shape c before cells = if is_given before (spelled_uid (cell_at cells c.uid)) then Some fault.DuplicateUid else place_or_away_fault c cells

pub item_fault-parts : (c : CatalogueColumns) (before : List ℕ) (cells : List (List ℕ)) → item_fault c before cells ≡ option_or (shape_fault c cells) (behind_shape c before cells)
item_fault-parts c before cells = in_parts (not (length cells == c.count)) (is_wrong_uid (cell_at cells c.uid)) (tells_elsewhere c cells) fault.Cells fault.Uid fault.UidElsewhere (behind_shape c before cells)

pub item_fault-shape : (c : CatalogueColumns) (before : List ℕ) (cells : List (List ℕ)) (f : TableLineFault) → shape_fault c cells ≡ Some f → item_fault c before cells ≡ Some f
item_fault-shape c before cells f e = item_fault-parts c before cells ∙ ap (λ o. option_or o (behind_shape c before cells)) e

pub item_fault-given : (c : CatalogueColumns) (before : List ℕ) (cells : List (List ℕ)) → shape_fault c cells ≡ None → is_given before (spelled_uid (cell_at cells c.uid)) ≡ true → item_fault c before cells ≡ Some fault.DuplicateUid
item_fault-given c before cells e g = item_fault-parts c before cells ∙ (ap (λ o. option_or o (behind_shape c before cells)) e ∙ cond-true _ (Some fault.DuplicateUid) (place_or_away_fault c cells) g)

pub item_fault-rest : (c : CatalogueColumns) (before : List ℕ) (cells : List (List ℕ)) → shape_fault c cells ≡ None → is_given before (spelled_uid (cell_at cells c.uid)) ≡ false → item_fault c before cells ≡ place_or_away_fault c cells
item_fault-rest c before cells e g = item_fault-parts c before cells ∙ (ap (λ o. option_or o (behind_shape c before cells)) e ∙ cond-false _ (Some fault.DuplicateUid) (place_or_away_fault c cells) g)

-- ---- a line that is a row

module _ (c : CatalogueColumns) (given line : List ℕ) (before : ℕ) (cells : List (List ℕ)) (split : cells_of (separator_byte c.separator) line ≡ Some cells) (full : is_blank_line cells ≡ false) (right : bytes_fault before line ≡ None) where
  fault_is : option_or (bytes_fault before line) (item_line_fault c given line) ≡ item_fault c given cells
  fault_is = ap (λ o. option_or o (item_line_fault c given line)) right ∙ (ap (cells_item_fault c given) split ∙ cond-false (is_blank_line cells) None (item_fault c given cells) full)

  item_is : line_item c (suc before) line ≡ item_of c (suc before) line cells ∷ []
  item_is = ap (cells_item c (suc before) line) split ∙ cond-false (is_blank_line cells) [] (item_of c (suc before) line cells ∷ []) full

  pub row_refused : (e : TableFault) → RefusesAt (suc before) (item_fault c given cells) e → RefusesAt (suc before) (option_or (bytes_fault before line) (item_line_fault c given line)) e
  row_refused (Line n f) r = (r.0, fault_is ∙ r.1)
  row_refused Memory r = tt

  pub row_taken : (text : List ℕ) (set : BTreeSet ℕ) (item : Item) → item_fault c given cells ≡ None → item_value text item ≡ item_of c (suc before) line cells
      → IsSetOf (given ++ as_list (spelled_uid (cell_at cells c.uid))) set → IsItemOf c given before text line set (Some item)
  row_taken text set item none is s = record {
    no_fault = fault_is ∙ none;
    item_is = ap (λ i. i ∷ []) is ∙ sym item_is;
    set_is = λ u. s u ∙ ap (λ us. has (given ++ us) u) (same (spelled_uid (cell_at cells c.uid)) ∙ ap item_uids (sym item_is));
  } where
    same : (uid : Option ℕ) → as_list uid ≡ item_uids (record { line = suc before; row = line; uid = uid; place = (item_of c (suc before) line cells).place; away = (item_of c (suc before) line cells).away } ∷ [])
    same None = refl
    same (Some u) = refl

module _ (c : CatalogueColumns) (given line : List ℕ) (before : ℕ) where
  -- a blank line
  pub blank_taken : (cells : List (List ℕ)) (text : List ℕ) (set : BTreeSet ℕ) → cells_of (separator_byte c.separator) line ≡ Some cells → is_blank_line cells ≡ true → bytes_fault before line ≡ None → IsSetOf given set → IsItemOf c given before text line set None
  blank_taken cells text set split blank right s = record {
    no_fault = ap (λ o. option_or o (item_line_fault c given line)) right ∙ (ap (cells_item_fault c given) split ∙ cond-true (is_blank_line cells) None (item_fault c given cells) blank);
    item_is = sym item_is;
    set_is = λ u. s u ∙ ap (λ us. has us u) (sym (append-nil given) ∙ ap (λ xs. given ++ item_uids xs) (sym item_is));
  } where
    item_is : line_item c (suc before) line ≡ []
    item_is = ap (cells_item c (suc before) line) split ∙ cond-true (is_blank_line cells) [] (item_of c (suc before) line cells ∷ []) blank

not_given : (b : Bool) → true ≡ not b → b ≡ false
not_given true e = cc
not_given false e = refl

-- a row without a fault
pub row_done : (c : CatalogueColumns) (before : List ℕ) (cells : List (List ℕ)) (number start end : ℕ) (item : Item) (set : BTreeSet ℕ)
    → shape_fault c cells ≡ None → place_or_away_fault c cells ≡ None → TellsNew before item.uid true set
    → item.uid ≡ spelled_uid (cell_at cells c.uid) → option_map (λ p. p.items) item.place ≡ place_at cells c.place → item.away ≡ is_word_at (codes "away") cells c.away
    → item.line ≡ number → item.start ≡ start → item.end ≡ end
    → (item_fault c before cells ≡ None) × ((text : List ℕ) → item_value text item ≡ item_of c number (slice_range text start end) cells) × IsSetOf (before ++ as_list (spelled_uid (cell_at cells c.uid))) set
row_done c before cells number start end item set shape rest new uid place away l s e =
    let P : Option ℕ → Type 0 = λ o. is_given before o ≡ false in
    let Q : Option ℕ → Type 0 = λ o. IsSetOf (before ++ as_list o) set in (
      item_fault-rest c before cells shape (subst P uid (not_given (is_given before item.uid) new.is_new)) ∙ rest,
      (λ text. rw (l, s, e, uid, place, away) refl),
      subst Q uid (new.set_is refl),
    )
