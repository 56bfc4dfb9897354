-- Which rows clash: two with the same UID, and in a table of places two with the same log.
use Rattle.vic_table.proofs.Words.{◌≡◌, ℕ, ◌+◌, ◌≤◌, Bool, true, false, not, ◌||◌, ◌==◌, Option, Some, None, List, [], ◌∷◌, length, map, refl, sym, ap, ◌∙◌, arith, cases_Bool, inl, inr, has, nat_eq, eq-eqb, eqb-true, or_parts, or_from, if◌then◌else◌}
use Rattle.std.specs.List.{cons_option}
use Rattle.std.specs.Str.{bytes_eq}
use Rattle.std.proofs.lemmas.List.Sums.{sum_by-cons}
use Rattle.std.proofs.lemmas.Slice.Eq.{bytes_eq-Decides}
use Rattle.vic_table.proofs.Counting.{passing}
use Rattle.vic_table.proofs.Faultless.{none_of_two, if_none, some_none}
use Rattle.vic_table.proofs.Moving.{Clashes}
use Rattle.vic_table.proofs.Rows.{behind_shape, item_fault-parts, item_fault-rest}
use Rattle.vic_table.specs.Cells.{cells_of}
use Rattle.vic_table.specs.Columns.{separator_byte}
use Rattle.vic_table.specs.Contents.{is_blank, spelled_uid, trimmed}
use Rattle.vic_table.specs.Reordered.{unnumbered, unnumbered_row}
use Rattle.vic_table.specs.Rows.{cell_at, is_given, is_blank_line, item_fault, item_of, item_uids, cells_item, cells_item_fault, line_item, item_line_fault, is_named, place_fault, place_row_of, cells_place_row, cells_place_fault, line_place_row, place_line_fault}
use Rattle.vic_table.specs.Values.{ItemValue, PlaceRowValue}
use Rattle.vic_table.specs.declared.columns.CatalogueColumns.{CatalogueColumns}
use Rattle.vic_table.specs.declared.columns.PlacesColumns.{PlacesColumns}
use Rattle.vic_table.specs.declared.fault.TableLineFault.{TableLineFault}
use Rattle.vic_table.specs.declared.fault.TableLineFault.TheVariants as fault
use Rattle.vic_table.specs.inner.Faults.{shape_fault, place_or_away_fault}

abbrev one_if : Bool → ℕ
one_if b = if b then 1 else 0

pub passing-cons : {A : Type 0} (bare : A → A) (test : A → Bool) (x : A) (xs : List A) → passing bare test (x ∷ xs) ≡ one_if (test (bare x)) + passing bare test xs
passing-cons bare test x xs = sum_by-cons (λ y. one_if (test y)) (bare x) (map bare xs)

-- ---- a line that may be blank

row_apart : {A : Type 0} (bare : A → A) (test : A → Bool) (blank : Bool) (f : Option TableLineFault) (x : A) (n : ℕ)
    → (if blank then None else f) ≡ None → n ≤ 1 → (f ≡ None → n + one_if (test (bare x)) ≤ 1) → n + passing bare test (if blank then [] else x ∷ []) ≤ 1
row_apart bare test true f x n h low apart = omega arith
row_apart bare test false f x n h low apart = let s = apart h in let e = passing-cons bare test x [] in omega arith

row_none : {A K : Type 0} (bare : A → A) (is : K → A → Bool) (blank : Bool) (f g : Option TableLineFault) (x : A) (n : K → ℕ)
    → (if blank then None else f) ≡ None → ((k : K) → n k + passing bare (is k) (if blank then [] else x ∷ []) ≤ 1)
    → (f ≡ None → ((k : K) → n k + one_if (is k (bare x)) ≤ 1) → g ≡ None) → (if blank then None else g) ≡ None
row_none bare is true f g x n h apart none = refl
row_none bare is false f g x n h apart none = none h (λ k. let e = passing-cons bare (is k) x [] in let s = apart k in omega arith)

row_own : (blank : Bool) (f g : Option TableLineFault) → (if blank then None else f) ≡ None → (f ≡ None → g ≡ None) → (if blank then None else g) ≡ None
row_own true f g h own = refl
row_own false f g h own = own h

-- ---- UIDs

abbrev is_uid_of : ℕ → Option ℕ → Bool
is_uid_of u None = false
is_uid_of u (Some v) = nat_eq u v

abbrev pub has_uid_of : ℕ → ItemValue → Bool
has_uid_of u item = is_uid_of u item.uid

first_zero : (b : Bool) (n : ℕ) → one_if b + n ≡ 0 → (b ≡ false) × (n ≡ 0)
first_zero true n e = absurd (omega arith)
first_zero false n e = (refl, omega arith)

given_none : (items : List ItemValue) (u : ℕ) → has (item_uids items) u ≡ false → passing unnumbered (has_uid_of u) items ≡ 0
given_none [] u h = refl
given_none (item ∷ items) u h = passing-cons unnumbered (has_uid_of u) item items ∙ go item.uid (given_none items u) h where
  go : (o : Option ℕ) → (has (item_uids items) u ≡ false → passing unnumbered (has_uid_of u) items ≡ 0) → has (cons_option o (item_uids items)) u ≡ false → one_if (is_uid_of u o) + passing unnumbered (has_uid_of u) items ≡ 0
  go None none h = let rest = none h in omega arith
  go (Some v) none h =
      let p = or_parts (nat_eq u v) (has (item_uids items) u) h in
      let one = ap one_if p.0 in
      let rest = none p.1 in
      omega arith

none_given : (items : List ItemValue) (u : ℕ) → passing unnumbered (has_uid_of u) items ≡ 0 → has (item_uids items) u ≡ false
none_given [] u h = refl
none_given (item ∷ items) u h = go item.uid (none_given items u) (sym (passing-cons unnumbered (has_uid_of u) item items) ∙ h) where
  go : (o : Option ℕ) → (passing unnumbered (has_uid_of u) items ≡ 0 → has (item_uids items) u ≡ false) → one_if (is_uid_of u o) + passing unnumbered (has_uid_of u) items ≡ 0 → has (cons_option o (item_uids items)) u ≡ false
  go None none h = none (first_zero false _ h).1
  go (Some v) none h = let p = first_zero (nat_eq u v) _ h in or_from (nat_eq u v) (has (item_uids items) u) p.0 (none p.1)

-- a row's UID beside those of rows before
uid_apart : (items : List ItemValue) (o : Option ℕ) (u : ℕ) → passing unnumbered (has_uid_of u) items ≤ 1 → is_given (item_uids items) o ≡ false → passing unnumbered (has_uid_of u) items + one_if (is_uid_of u o) ≤ 1
uid_apart items None u low h = omega arith
uid_apart items (Some v) u low h = elim (cases_Bool (nat_eq u v)) [
  | inl same ↦ let here : u ≡ v = eqb-true u v same in let none = given_none items u (ap (has (item_uids items)) here ∙ h) in let one = ap one_if same in omega arith
  | inr other ↦ let none = ap one_if other in omega arith
]

uid_new : (items : List ItemValue) (o : Option ℕ) → ((u : ℕ) → passing unnumbered (has_uid_of u) items + one_if (is_uid_of u o) ≤ 1) → is_given (item_uids items) o ≡ false
uid_new items None apart = refl
uid_new items (Some v) apart =
    let s = apart v in
    let one = ap one_if (eq-eqb v v refl) in
    none_given items v (omega arith)

none_before : (o : Option ℕ) → is_given [] o ≡ false
none_before None = refl
none_before (Some u) = refl

module _ (c : CatalogueColumns) where
  item_parts : (before : List ℕ) (cells : List (List ℕ)) → item_fault c before cells ≡ None → (shape_fault c cells ≡ None) × (is_given before (spelled_uid (cell_at cells c.uid)) ≡ false) × (place_or_away_fault c cells ≡ None)
  item_parts before cells h =
      let p = none_of_two (shape_fault c cells) (behind_shape c before cells) (sym (item_fault-parts c before cells) ∙ h) in
      let q = if_none (is_given before (spelled_uid (cell_at cells c.uid))) fault.DuplicateUid (place_or_away_fault c cells) p.1 in
      (p.0, q.0, q.1)

  item_whole : (before : List ℕ) (cells : List (List ℕ)) → shape_fault c cells ≡ None → is_given before (spelled_uid (cell_at cells c.uid)) ≡ false → place_or_away_fault c cells ≡ None → item_fault c before cells ≡ None
  item_whole before cells shape given rest = item_fault-rest c before cells shape given ∙ rest

  pub items_clash : Clashes unnumbered (line_item c) has_uid_of (λ items line. item_line_fault c (item_uids items) line)
  items_clash = record {
    own = λ items line h. own items (cells_of (separator_byte c.separator) line) h;
    apart = λ items line u h low. apart items line u (cells_of (separator_byte c.separator) line) h low;
    none = λ items line h s. none items line (cells_of (separator_byte c.separator) line) h s;
  } where
    own : (items : List ItemValue) (o : Option (List (List ℕ))) → cells_item_fault c (item_uids items) o ≡ None → cells_item_fault c [] o ≡ None
    own items None h = cc
    own items (Some cells) h = row_own (is_blank_line cells) (item_fault c (item_uids items) cells) (item_fault c [] cells) h (λ e. let p = item_parts (item_uids items) cells e in item_whole [] cells p.0 (none_before (spelled_uid (cell_at cells c.uid))) p.2)

    apart : (items : List ItemValue) (line : List ℕ) (u : ℕ) (o : Option (List (List ℕ))) → cells_item_fault c (item_uids items) o ≡ None → passing unnumbered (has_uid_of u) items ≤ 1 → passing unnumbered (has_uid_of u) items + passing unnumbered (has_uid_of u) (cells_item c 0 line o) ≤ 1
    apart items line u None h low = absurd (some_none h)
    apart items line u (Some cells) h low =
        row_apart unnumbered (has_uid_of u) (is_blank_line cells) (item_fault c (item_uids items) cells) (item_of c 0 line cells) _ h low
        (λ e. uid_apart items (spelled_uid (cell_at cells c.uid)) u low (item_parts (item_uids items) cells e).1)

    none : (items : List ItemValue) (line : List ℕ) (o : Option (List (List ℕ))) → cells_item_fault c [] o ≡ None → ((u : ℕ) → passing unnumbered (has_uid_of u) items + passing unnumbered (has_uid_of u) (cells_item c 0 line o) ≤ 1) → cells_item_fault c (item_uids items) o ≡ None
    none items line None h s = cc
    none items line (Some cells) h s =
        row_none unnumbered has_uid_of (is_blank_line cells) (item_fault c [] cells) (item_fault c (item_uids items) cells) (item_of c 0 line cells) (λ u. passing unnumbered (has_uid_of u) items) h s
        (λ e apart. let p = item_parts [] cells e in item_whole (item_uids items) cells p.0 (uid_new items (spelled_uid (cell_at cells c.uid)) apart) p.2)

-- ---- logs

abbrev pub has_log : List ℕ → PlaceRowValue → Bool
has_log log row = bytes_eq row.log log

named_none : (rows : List PlaceRowValue) (log : List ℕ) → is_named rows log ≡ false → passing unnumbered_row (has_log log) rows ≡ 0
named_none [] log h = refl
named_none (row ∷ rows) log h =
    let p = or_parts (bytes_eq row.log log) (is_named rows log) h in
    let e = passing-cons unnumbered_row (has_log log) row rows in
    let one = ap one_if p.0 in
    let rest = named_none rows log p.1 in
    omega arith

none_named : (rows : List PlaceRowValue) (log : List ℕ) → passing unnumbered_row (has_log log) rows ≡ 0 → is_named rows log ≡ false
none_named [] log h = refl
none_named (row ∷ rows) log h =
    let p = first_zero (bytes_eq row.log log) _ (sym (passing-cons unnumbered_row (has_log log) row rows) ∙ h) in
    or_from (bytes_eq row.log log) (is_named rows log) p.0 (none_named rows log p.1)

log_apart : (rows : List PlaceRowValue) (own log : List ℕ) → passing unnumbered_row (has_log log) rows ≤ 1 → is_named rows own ≡ false → passing unnumbered_row (has_log log) rows + one_if (bytes_eq own log) ≤ 1
log_apart rows own log low h = elim (cases_Bool (bytes_eq own log)) [
  | inl same ↦ let here : own ≡ log = (bytes_eq-Decides own log).0 same in let none = named_none rows log (ap (is_named rows) (sym here) ∙ h) in let one = ap one_if same in omega arith
  | inr other ↦ let none = ap one_if other in omega arith
]

log_new : (rows : List PlaceRowValue) (own : List ℕ) → ((log : List ℕ) → passing unnumbered_row (has_log log) rows + one_if (bytes_eq own log) ≤ 1) → is_named rows own ≡ false
log_new rows own apart =
    let s = apart own in
    let one = ap one_if ((bytes_eq-Decides own own).1 refl) in
    none_named rows own (omega arith)

module _ (c : PlacesColumns) where
  abbrev log_of : List (List ℕ) → List ℕ
  log_of cells = trimmed (cell_at cells c.log)

  abbrev is_misshapen : List (List ℕ) → Bool
  is_misshapen cells = not (length cells == c.count)

  abbrev lacks_cell : List (List ℕ) → Bool
  lacks_cell cells = is_blank (cell_at cells c.place) || is_blank (cell_at cells c.log)

  place_parts : (rows : List PlaceRowValue) (cells : List (List ℕ)) → place_fault c rows cells ≡ None → (is_misshapen cells ≡ false) × (lacks_cell cells ≡ false) × (is_named rows (log_of cells) ≡ false)
  place_parts rows cells h =
      let p = if_none (is_misshapen cells) fault.Cells _ h in
      let q = if_none (lacks_cell cells) fault.Place _ p.1 in
      (p.0, q.0, (if_none (is_named rows (log_of cells)) fault.DuplicateLog None q.1).0)

  place_whole : (rows : List PlaceRowValue) (cells : List (List ℕ)) → is_misshapen cells ≡ false → lacks_cell cells ≡ false → is_named rows (log_of cells) ≡ false → place_fault c rows cells ≡ None
  place_whole rows cells shape full new = go (is_misshapen cells) (lacks_cell cells) (is_named rows (log_of cells)) shape full new where
    go : (a p n : Bool) → a ≡ false → p ≡ false → n ≡ false → (if a then Some fault.Cells else (if p then Some fault.Place else (if n then Some fault.DuplicateLog else None))) ≡ None
    go a p n ea ep en = rw (ea, ep, en) refl

  pub places_clash : Clashes unnumbered_row (line_place_row c) has_log (place_line_fault c)
  places_clash = record {
    own = λ rows line h. own rows (cells_of (separator_byte c.separator) line) h;
    apart = λ rows line log h low. apart rows log (cells_of (separator_byte c.separator) line) h low;
    none = λ rows line h s. none rows (cells_of (separator_byte c.separator) line) h s;
  } where
    own : (rows : List PlaceRowValue) (o : Option (List (List ℕ))) → cells_place_fault c rows o ≡ None → cells_place_fault c [] o ≡ None
    own rows None h = cc
    own rows (Some cells) h = row_own (is_blank_line cells) (place_fault c rows cells) (place_fault c [] cells) h (λ e. let p = place_parts rows cells e in place_whole [] cells p.0 p.1 refl)

    apart : (rows : List PlaceRowValue) (log : List ℕ) (o : Option (List (List ℕ))) → cells_place_fault c rows o ≡ None → passing unnumbered_row (has_log log) rows ≤ 1 → passing unnumbered_row (has_log log) rows + passing unnumbered_row (has_log log) (cells_place_row c 0 o) ≤ 1
    apart rows log None h low = absurd (some_none h)
    apart rows log (Some cells) h low =
        row_apart unnumbered_row (has_log log) (is_blank_line cells) (place_fault c rows cells) (place_row_of c 0 cells) _ h low
        (λ e. log_apart rows (log_of cells) log low (place_parts rows cells e).2)

    none : (rows : List PlaceRowValue) (o : Option (List (List ℕ))) → cells_place_fault c [] o ≡ None → ((log : List ℕ) → passing unnumbered_row (has_log log) rows + passing unnumbered_row (has_log log) (cells_place_row c 0 o) ≤ 1) → cells_place_fault c rows o ≡ None
    none rows None h s = cc
    none rows (Some cells) h s =
        row_none unnumbered_row has_log (is_blank_line cells) (place_fault c [] cells) (place_fault c rows cells) (place_row_of c 0 cells) (λ log. passing unnumbered_row (has_log log) rows) h s
        (λ e apart. let p = place_parts [] cells e in place_whole rows cells p.0 p.1 (log_new rows (log_of cells) apart))
