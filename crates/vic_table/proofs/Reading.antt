-- Lines read one after another.
use Rattle.vic_table.proofs.Words.{◌≡◌, ◌≢◌, ℕ, zero, suc, ◌<◌, ◌≤◌, Option, Some, None, List, [], ◌∷◌, ◌++◌, length, drop, slice_get, refl, sym, ap, ap₂, ◌∙◌, arith, cond-true, cond-false, ne_eqb, eq-eqb, ◌==◌, cases_lt, cases_eq, inl, inr, option_or, slice_get_past, length-drop, lines_of_text, filter_map-append, has}
use Rattle.std.specs.BTreeSet.{BTreeSet}
use Rattle.std.specs.declared.vec.Vec.{Vec}
use Rattle.vic_table.specs.Lines.{bytes_fault}
use Rattle.vic_table.specs.Rows.{is_named, item_line_fault, line_item, item_uids, place_line_fault, line_place_row}
use Rattle.vic_table.specs.Table.{fault_behind, fault_of, end_fault, fault_by_columns, rows_fault, items_fault, columns_named, items_upto, place_rows_upto, item_on, place_row_on, HasNoFault, IsFirstFault}
use Rattle.vic_table.specs.Values.{ItemValue, PlaceRowValue}
use Rattle.vic_table.specs.declared.columns.CatalogueColumns.{CatalogueColumns}
use Rattle.vic_table.specs.declared.columns.PlacesColumns.{PlacesColumns}
use Rattle.vic_table.specs.declared.columns.Columns.TheVariants.{Catalogue, Places}
use Rattle.vic_table.specs.declared.fault.TableLineFault.{TableLineFault}
use Rattle.vic_table.specs.declared.fault.TableLineFault.TheVariants as fault
use Rattle.vic_table.specs.declared.fault.TableFault.{TableFault}
use Rattle.vic_table.specs.declared.fault.TableFault.TheVariants.{Line, Memory}
use Rattle.vic_table.specs.declared.item_list.Item.{Item}
use Rattle.vic_table.specs.inner.Faults.{RefusesAt}
use Rattle.vic_table.specs.inner.Kept.{ItemAt, item_values, item_or_none, row_or_none}
use Rattle.vic_table.specs.inner.Reading.{AreClean, RefusesLines}
use Rattle.vic_table.specs.inner.Sets.{IsSetOf, IsItemOf, AreLogsOf, IsPlaceRowOf}

-- ---- the line behind some others

get_next : {X : Type 0} (xs : List X) (n : ℕ) (x : X) (ys : List X) → drop n xs ≡ x ∷ ys → slice_get xs n ≡ Some x
get_next [] zero x ys e = cc
get_next [] (suc n) x ys e = cc
get_next (y ∷ xs) zero x ys e = cc
get_next (y ∷ xs) (suc n) x ys e = get_next xs n x ys e

drop_next : {X : Type 0} (xs : List X) (n : ℕ) (x : X) (ys : List X) → drop n xs ≡ x ∷ ys → drop (suc n) xs ≡ ys
drop_next [] zero x ys e = cc
drop_next [] (suc n) x ys e = cc
drop_next (y ∷ xs) zero x ys e = cc
drop_next (y ∷ xs) (suc n) x ys e = drop_next xs n x ys e

module _ {lines : List (List ℕ)} {n : ℕ} {rest line : List ℕ} (more : List ℕ) (a : AreClean lines n rest) (cuts : lines_of_text rest ≡ line ∷ lines_of_text more) where
  here : drop n lines ≡ line ∷ lines_of_text more
  here = a.rest_is ∙ cuts

  pub line_next : slice_get lines n ≡ Some line
  line_next = get_next lines n line (lines_of_text more) here

  room : n < length lines
  room = omega (arith, length-drop n lines, ap length here)

  pub clean_next : fault_behind lines n ≡ None → AreClean lines (suc n) more
  clean_next none = record { clean = λ m low. upto m low; read = omega (arith, room); rest_is = drop_next lines n line (lines_of_text more) here } where
    upto : (m : ℕ) → m < suc n → fault_behind lines m ≡ None
    upto m low = elim (cases_lt m n) [
      | inl below ↦ a.clean m below
      | inr above ↦ let same : m ≡ n = omega arith in rw same none
    ]

-- the first fault is on the line behind clean ones
pub refuses_next : {lines : List (List ℕ)} {n : ℕ} {rest : List ℕ} → AreClean lines n rest → (o : Option TableLineFault) → fault_behind lines n ≡ o → (e : TableFault) → RefusesAt (suc n) o e → RefusesLines lines e
refuses_next {n = n} a o is (Line m f) r = record { before = n; number_is = r.0; here = is ∙ r.1; first = a.clean }
refuses_next a o is Memory r = tt

-- no more lines
pub count_is : {lines : List (List ℕ)} {n : ℕ} → AreClean lines n [] → n ≡ length lines
count_is {lines = lines} {n = n} a = omega (arith, a.read, length-drop n lines, ap length a.rest_is)

pub at_end : {lines : List (List ℕ)} {n : ℕ} → AreClean lines n [] → slice_get lines n ≡ None
at_end {lines = lines} {n = n} a = slice_get_past lines n (omega (arith, count_is a))

pub all_clean : {lines : List (List ℕ)} {n : ℕ} → AreClean lines n [] → 0 < n → fault_behind lines n ≡ None → HasNoFault lines
all_clean {lines = lines} {n = n} a some none m = elim (cases_lt m n) [
  | inl below ↦ a.clean m below
  | inr above ↦ elim (cases_eq m n) [
    | inl same ↦ rw same none
    | inr other ↦ behind m (omega arith) other
  ]
] where
  past : (m : ℕ) → 0 < m → m ≢ length lines → end_fault lines m ≡ None
  past zero low other = absurd (omega arith)
  past (suc k) low other = cond-false (suc k == length lines) (rows_fault lines (columns_named lines)) None (ne_eqb (suc k) (length lines) other)

  behind : (m : ℕ) → n ≤ m → m ≢ n → fault_behind lines m ≡ None
  behind m above other = ap (fault_of lines m) (slice_get_past lines m (omega (arith, count_is a))) ∙ past m (omega arith) (λ e. other (e ∙ sym (count_is a)))

-- ---- items

-- the first n lines are clean, and have these items, whose UIDs are in the set
pub record AreItemsUpto (c : CatalogueColumns) (lines : List (List ℕ)) (n : ℕ) (rest : List ℕ) (items : List ItemValue) (set : BTreeSet ℕ) : Type 0 where
  pub clean : AreClean lines n rest
  pub columns_are : columns_named lines ≡ Some (Catalogue c)
  pub items_are : items ≡ items_upto c lines n
  pub set_is : IsSetOf (item_uids items) set

item_fault_behind : {c : CatalogueColumns} {lines : List (List ℕ)} {n : ℕ} {rest : List ℕ} {items : List ItemValue} {set : BTreeSet ℕ} → AreItemsUpto c lines n rest items set → 0 < n → (line : List ℕ) → slice_get lines n ≡ Some line
    → fault_behind lines n ≡ option_or (bytes_fault n line) (item_line_fault c (item_uids items) line)
item_fault_behind {n = zero} a some line at = absurd (omega arith)
item_fault_behind {c = c} {lines = lines} {n = suc k} a some line at =
    ap (fault_of lines (suc k)) at ∙ ap (option_or (bytes_fault (suc k) line)) (ap (fault_by_columns lines (suc k) line) a.columns_are ∙ ap (λ items. item_line_fault c (item_uids items) line) (sym a.items_are))

item_next : (c : CatalogueColumns) (lines : List (List ℕ)) (n : ℕ) (line : List ℕ) → 0 < n → slice_get lines n ≡ Some line → items_upto c lines (suc n) ≡ items_upto c lines n ++ line_item c (suc n) line
item_next c lines zero line some at = absurd (omega arith)
item_next c lines (suc k) line some at = ap (λ o. items_upto c lines (suc k) ++ item_on c (suc k) o) at

module _ {c : CatalogueColumns} {lines : List (List ℕ)} {n : ℕ} {rest line : List ℕ} {items : List ItemValue} {old : BTreeSet ℕ} (more : List ℕ) (a : AreItemsUpto c lines n rest items old) (some : 0 < n) (cuts : lines_of_text rest ≡ line ∷ lines_of_text more) where
  at : slice_get lines n ≡ Some line
  at = line_next more a.clean cuts

  pub items_next : (text : List ℕ) (set : BTreeSet ℕ) (item : Option Item) → IsItemOf c (item_uids items) n text line set item → AreItemsUpto c lines (suc n) more (items ++ item_or_none text item) set
  items_next text set item is = record {
    clean = clean_next more a.clean cuts (item_fault_behind a some line at ∙ is.no_fault);
    columns_are = a.columns_are;
    items_are = ap₂ (λ xs ys. xs ++ ys) a.items_are is.item_is ∙ sym (item_next c lines n line some at);
    set_is = λ u. is.set_is u ∙ ap (λ us. has us u) (sym (filter_map-append (λ i. i.uid) items (line_item c (suc n) line)) ∙ ap (λ ys. item_uids (items ++ ys)) (sym is.item_is));
  }

  pub items_refused : (e : TableFault) → RefusesAt (suc n) (option_or (bytes_fault n line) (item_line_fault c (item_uids items) line)) e → RefusesLines lines e
  items_refused e r = refuses_next a.clean _ (item_fault_behind a some line at) e r

module _ {c : CatalogueColumns} {lines : List (List ℕ)} {n : ℕ} {items : List ItemValue} {set : BTreeSet ℕ} (a : AreItemsUpto c lines n [] items set) (some : 0 < n) where
  end_is : (n : ℕ) → 0 < n → n ≡ length lines → end_fault lines n ≡ rows_fault lines (columns_named lines)
  end_is zero low e = absurd (omega arith)
  end_is (suc k) low e = cond-true (suc k == length lines) (rows_fault lines (columns_named lines)) None (eq-eqb (suc k) (length lines) e)

  fault_is : fault_behind lines n ≡ items_fault items
  fault_is =
      ap (fault_of lines n) (at_end a.clean)
      ∙ (end_is n some (count_is a.clean)
      ∙ (ap (rows_fault lines) a.columns_are ∙ ap items_fault (ap (items_upto c lines) (sym (count_is a.clean)) ∙ sym a.items_are)))

  pub no_items_refused : items ≡ [] → IsFirstFault lines (suc n) fault.NoItems
  no_items_refused none = record { before = n; number_is = refl; here = fault_is ∙ ap items_fault none; first = a.clean.clean }

  some_items : (items : List ItemValue) → items ≢ [] → items_fault items ≡ None
  some_items [] h = absurd (h refl)
  some_items (item ∷ items) h = refl

  pub items_whole : items ≢ [] → HasNoFault lines × (items ≡ items_upto c lines (length lines))
  items_whole h = (all_clean a.clean some (fault_is ∙ some_items items h), a.items_are ∙ ap (items_upto c lines) (count_is a.clean))

-- ---- rows of a table of places

module _ {A : Type 0} where
  -- the first n lines are clean, and have these rows, whose logs are in the set
  pub record AreRowsUpto (c : PlacesColumns) (lines : List (List ℕ)) (n : ℕ) (rest : List ℕ) (rows : List PlaceRowValue) (set : BTreeSet (Vec ℕ A)) : Type 0 where
    pub clean : AreClean lines n rest
    pub columns_are : columns_named lines ≡ Some (Places c)
    pub rows_are : rows ≡ place_rows_upto c lines n
    pub set_is : AreLogsOf rows set

  row_fault_behind : {c : PlacesColumns} {lines : List (List ℕ)} {n : ℕ} {rest : List ℕ} {rows : List PlaceRowValue} {set : BTreeSet (Vec ℕ A)} → AreRowsUpto c lines n rest rows set → 0 < n → (line : List ℕ) → slice_get lines n ≡ Some line
      → fault_behind lines n ≡ option_or (bytes_fault n line) (place_line_fault c rows line)
  row_fault_behind {n = zero} a some line at = absurd (omega arith)
  row_fault_behind {c = c} {lines = lines} {n = suc k} a some line at =
      ap (fault_of lines (suc k)) at ∙ ap (option_or (bytes_fault (suc k) line)) (ap (fault_by_columns lines (suc k) line) a.columns_are ∙ ap (λ rows. place_line_fault c rows line) (sym a.rows_are))

row_next : (c : PlacesColumns) (lines : List (List ℕ)) (n : ℕ) (line : List ℕ) → 0 < n → slice_get lines n ≡ Some line → place_rows_upto c lines (suc n) ≡ place_rows_upto c lines n ++ line_place_row c (suc n) line
row_next c lines zero line some at = absurd (omega arith)
row_next c lines (suc k) line some at = ap (λ o. place_rows_upto c lines (suc k) ++ place_row_on c (suc k) o) at

module _ {A : Type 0} {c : PlacesColumns} {lines : List (List ℕ)} {n : ℕ} {rest line : List ℕ} {rows : List PlaceRowValue} {old : BTreeSet (Vec ℕ A)} (more : List ℕ) (a : AreRowsUpto c lines n rest rows old) (some : 0 < n) (cuts : lines_of_text rest ≡ line ∷ lines_of_text more) where
  row_at : slice_get lines n ≡ Some line
  row_at = line_next more a.clean cuts

  pub rows_next : (set : BTreeSet (Vec ℕ A)) (row : Option PlaceRowValue) → IsPlaceRowOf c rows n line set row → AreRowsUpto c lines (suc n) more (rows ++ row_or_none row) set
  rows_next set row is = record {
    clean = clean_next more a.clean cuts (row_fault_behind a some line row_at ∙ is.no_fault);
    columns_are = a.columns_are;
    rows_are = ap₂ (λ xs ys. xs ++ ys) a.rows_are is.row_is ∙ sym (row_next c lines n line some row_at);
    set_is = λ log. is.set_is log ∙ ap (λ ys. is_named (rows ++ ys) log.items) (sym is.row_is);
  }

  pub rows_refused : (e : TableFault) → RefusesAt (suc n) (option_or (bytes_fault n line) (place_line_fault c rows line)) e → RefusesLines lines e
  rows_refused e r = refuses_next a.clean _ (row_fault_behind a some line row_at) e r

module _ {A : Type 0} {c : PlacesColumns} {lines : List (List ℕ)} {n : ℕ} {rows : List PlaceRowValue} {set : BTreeSet (Vec ℕ A)} (a : AreRowsUpto c lines n [] rows set) (some : 0 < n) where
  rows_end : (n : ℕ) → 0 < n → n ≡ length lines → end_fault lines n ≡ rows_fault lines (columns_named lines)
  rows_end zero low e = absurd (omega arith)
  rows_end (suc k) low e = cond-true (suc k == length lines) (rows_fault lines (columns_named lines)) None (eq-eqb (suc k) (length lines) e)

  pub rows_whole : HasNoFault lines × (rows ≡ place_rows_upto c lines (length lines))
  rows_whole = (
    all_clean a.clean some (ap (fault_of lines n) (at_end a.clean) ∙ (rows_end n some (count_is a.clean) ∙ ap (rows_fault lines) a.columns_are)),
    a.rows_are ∙ ap (place_rows_upto c lines) (count_is a.clean),
  )

-- ---- whether there are items

pub none_kept : (text : List ℕ) (items : List ItemAt) → length items ≡ 0 → item_values text items ≡ []
none_kept text [] h = refl
none_kept text (item ∷ items) h = absurd (omega arith)

pub some_kept : (text : List ℕ) (items : List ItemAt) → length items ≢ 0 → item_values text items ≢ []
some_kept text [] h e = h refl
some_kept text (item ∷ items) h e = cc
