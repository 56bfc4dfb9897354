-- Each UID of a catalogue is the UID of one item.
use Rattle.vic_table.proofs.Words.{◌⊎◌, or_left, or_right, eq-eqb, ◌≡◌, ◌≢◌, ℕ, zero, suc, ◌+◌, ◌-◌, ◌≤◌, Bool, true, false, not, ◌||◌, ◌&&◌, ◌==◌, Option, Some, None, List, [], ◌∷◌, ◌++◌, length, take, drop, get_or, slice_get, refl, sym, ap, subst, ◌∙◌, arith, nat_tests, cond-true, cond-false, cases_Bool, cases_eq, cases_lt, inl, inr, append-nil, filter_map-append, has, nat_eq, list_any, list_any-append, is_none, option_or, option_and_then, or_parts, or_from, or-false, get_or_from_slice_get, slice_get_within, eqb-true, nat_lt, lt-ltb, unwrap_or, if◌then◌else◌}
use Rattle.std.proofs.lemmas.List.Quantifiers.{position-Some}
use Rattle.std.specs.List.{cons_option, filter_map, count_by, position, position_or_len}
use Rattle.std.specs.Prelude.{codes}
use Rattle.vic_frame.specs.Uids.{AreDifferent}
use Rattle.vic_table.specs.Cells.{cells_of}
use Rattle.vic_table.specs.Columns.{separator_byte, are_of_catalogue, are_of_places, catalogue_columns, places_columns, named_columns, columns_under, columns_of, columns_fault, names_fault, is_misquoted, are_of_result, tells_elsewhere, first_line_fault}
use Rattle.vic_table.specs.Conserved.{as_list, UidsAreConserved, IsInCell, IsInItem, told_uids}
use Rattle.vic_table.specs.Contents.{hex_uid, hex_runs, is_blank, is_word, spelled_uid, tells_uid}
use Rattle.vic_table.specs.Lines.{bytes_fault, table_lines}
use Rattle.vic_table.specs.Rows.{cell_at, is_blank_line, is_wrong_uid, is_given, item_fault, item_of, item_line_fault, cells_item_fault, cells_item, item_uids}
use Rattle.vic_table.specs.Table.{fault_of, line_fault, fault_by_columns, columns_named, item_on, items_upto, HasNoFault}
use Rattle.vic_table.specs.Values.{ItemValue}
use Rattle.vic_table.specs.declared.columns.CatalogueColumns.{CatalogueColumns}
use Rattle.vic_table.specs.declared.columns.Columns.{Columns}
use Rattle.vic_table.specs.declared.columns.Columns.TheVariants.{Catalogue, Places}
use Rattle.vic_table.specs.declared.columns.Separator.{Separator}
use Rattle.vic_table.specs.declared.columns.Separator.TheVariants.{Comma, Semicolon, Tab}
use Rattle.vic_table.specs.declared.fault.TableLineFault.TheVariants as fault
use Rattle.vic_table.specs.inner.Faults.{shape_fault, place_or_away_fault}
use Rattle.vic_table.proofs.Faultless.{none_of_two, if_none}
use Rattle.vic_table.proofs.Elements.{list_any_holds, list_all_fails, slice_get-take, slice_get-drop_at}
use Rattle.vic_table.proofs.Rows.{item_fault-parts, behind_shape}
use Rattle.vic_table.proofs.Telling.{HasDigits, told_has, told_tells, blank_has_none, word_is_short}

is_true : (b : Bool) → (true && not b) ≡ false → b ≡ true
is_true true k = refl
is_true false k = cc

same_some : (xs ys : List (List ℕ)) → Some xs ≡ Some ys → xs ≡ ys
same_some xs ys e = cc

and_first : (a b d : Bool) → (a && b && d) ≡ true → a ≡ true
and_first a b d h = grind (arith, nat_tests)

-- ---- cells besides that of the column `uid`

elsewhere : (c : CatalogueColumns) (cells : List (List ℕ)) (j : ℕ) (cell : List ℕ) (u : ℕ) → tells_elsewhere c cells ≡ false → slice_get cells j ≡ Some cell → has (told_uids cell) u ≡ true → j ≡ c.uid
elsewhere c cells j cell u none at told = elim (cases_eq j c.uid) [
  | inl same ↦ same
  | inr other ↦ absurd (no_other other)
] where
  parts : (list_any tells_uid (take c.uid cells) ≡ false) × (list_any tells_uid (drop (suc c.uid) cells) ≡ false)
  parts = or_parts (list_any tells_uid (take c.uid cells)) (list_any tells_uid (drop (suc c.uid) cells)) (sym (list_any-append tells_uid (take c.uid cells) (drop (suc c.uid) cells)) ∙ none)

  tells : tells_uid cell ≡ true
  tells = told_tells cell u told

  no_other : j ≢ c.uid → ⊥
  no_other other = elim (cases_lt j c.uid) [
    | inl below ↦ let yes_ = list_any_holds tells_uid (take c.uid cells) j cell (slice_get-take cells c.uid j below ∙ at) tells in let no_ = parts.0 in cc
    | inr above ↦ let yes_ = list_any_holds tells_uid (drop (suc c.uid) cells) (j - suc c.uid) cell (slice_get-drop_at cells (suc c.uid) j cell (omega arith) at) tells in let no_ = parts.1 in cc
  ]

-- ---- the first line

none_counted : (p : List ℕ → Bool) (cells : List (List ℕ)) → length cells ≤ position_or_len p cells → count_by p cells ≡ 0
none_counted p [] h = refl
none_counted p (x ∷ cells) h = grind (arith, nat_tests, none_counted p cells)

-- where one is counted, there is a first
found : (p : List ℕ → Bool) (cells : List (List ℕ)) → (count_by p cells == 1) ≡ true → (i : ℕ) × (position p cells ≡ Some i) × (p (get_or cells i []) ≡ true)
found p cells h = elim (cases_lt (position_or_len p cells) (length cells)) [
  | inl below ↦
      let is = cond-true (nat_lt (position_or_len p cells) (length cells)) (Some (position_or_len p cells)) None (lt-ltb (position_or_len p cells) (length cells) below) in
      (position_or_len p cells, is, (position-Some p cells (position_or_len p cells) [] is).1)
  | inr above ↦ let none = none_counted p cells above in let one = eqb-true (count_by p cells) 1 h in absurd (omega arith)
]

-- the separator under which there are columns
under_one : (line : List ℕ) (d : Columns) → columns_of line ≡ Some d → (s : Separator) × (columns_under line s ≡ Some d)
under_one line d h = go (columns_under line Comma) (columns_under line Semicolon) (columns_under line Tab) refl refl refl h where
  go : (a b e : Option Columns) → a ≡ columns_under line Comma → b ≡ columns_under line Semicolon → e ≡ columns_under line Tab → option_or a (option_or b e) ≡ Some d → (s : Separator) × (columns_under line s ≡ Some d)
  go (Some x) b e ea eb ee h = (Comma, sym ea ∙ h)
  go None (Some x) e ea eb ee h = (Semicolon, sym eb ∙ h)
  go None None e ea eb ee h = (Tab, sym ee ∙ h)

cells_under : (s : Separator) (o : Option (List (List ℕ))) (d : Columns) → option_and_then (named_columns s) o ≡ Some d → (cells : List (List ℕ)) × (o ≡ Some cells) × (named_columns s cells ≡ Some d)
cells_under s None d h = cc
cells_under s (Some cells) d h = (cells, refl, h)

uid_column : (separator : Separator) (cells : List (List ℕ)) (c : CatalogueColumns) → named_columns separator cells ≡ Some (Catalogue c) → (c ≡ catalogue_columns separator cells) × (are_of_catalogue cells ≡ true)
uid_column separator cells c h = elim (cases_Bool (are_of_catalogue cells)) [
  | inl is ↦ (let e = sym (cond-true (are_of_catalogue cells) (Some (Catalogue (catalogue_columns separator cells))) (if are_of_places cells then Some (Places (places_columns separator cells)) else None) is) ∙ h in cc, is)
  | inr other ↦ absurd (no_places (sym (cond-false (are_of_catalogue cells) (Some (Catalogue (catalogue_columns separator cells))) (if are_of_places cells then Some (Places (places_columns separator cells)) else None) other) ∙ h))
] where
  no_places : (if are_of_places cells then Some (Places (places_columns separator cells)) else None) ≡ Some (Catalogue c) → ⊥
  no_places e = elim (cases_Bool (are_of_places cells)) [
    | inl is ↦ let k = sym (cond-true (are_of_places cells) (Some (Places (places_columns separator cells))) None is) ∙ e in cc
    | inr other ↦ let k = sym (cond-false (are_of_places cells) (Some (Places (places_columns separator cells))) None other) ∙ e in cc
  ]

-- ---- items

more_items : (c : CatalogueColumns) (lines : List (List ℕ)) (m d i : ℕ) (item : ItemValue) → slice_get (items_upto c lines m) i ≡ Some item → slice_get (items_upto c lines (d + m)) i ≡ Some item
more_items c lines m zero i item at = let e : 0 + m ≡ m = omega arith in rw e at
more_items c lines m (suc d) i item at = let e : suc d + m ≡ suc (d + m) = omega arith in rw e (get_front (items_upto c lines (d + m)) (item_on c (d + m) (slice_get lines (d + m))) i item (more_items c lines m d i item at)) where
  get_front : (xs ys : List ItemValue) (i : ℕ) (x : ItemValue) → slice_get xs i ≡ Some x → slice_get (xs ++ ys) i ≡ Some x
  get_front [] ys i x at = cc
  get_front (y ∷ xs) ys zero x at = at
  get_front (y ∷ xs) ys (suc i) x at = get_front xs ys i x at

get_seam : (xs : List ItemValue) (x : ItemValue) → slice_get (xs ++ x ∷ []) (length xs) ≡ Some x
get_seam [] x = refl
get_seam (y ∷ xs) x = get_seam xs x

AreDifferent-push : (us : List ℕ) (u : ℕ) → AreDifferent us → has us u ≡ false → AreDifferent (us ++ u ∷ [])
AreDifferent-push [] u d h = (refl, tt)
AreDifferent-push (v ∷ us) u d h =
    let p = or_parts (nat_eq u v) (has us u) h in (
      list_any-append (nat_eq v) us (u ∷ []) ∙ or_from (has us v) (nat_eq v u || false) d.0 (or-false (nat_eq v u) ∙ (swapped v u ∙ p.0)),
      AreDifferent-push us u d.1 p.1,
    ) where
      swapped : (a b : ℕ) → nat_eq a b ≡ nat_eq b a
      swapped a b = grind (arith, nat_tests)

-- lines that add no UID, and one that adds a new one
no_more_uids : (items new : List ItemValue) → item_uids new ≡ [] → AreDifferent (item_uids items) → AreDifferent (item_uids (items ++ new))
no_more_uids items new e d =
    let D : List ℕ → Type 0 = λ us. AreDifferent us in
    subst D (sym (filter_map-append (λ i. i.uid) items new ∙ (ap (λ us. item_uids items ++ us) e ∙ append-nil (item_uids items)))) d

one_more_uid : (items new : List ItemValue) (u : ℕ) → item_uids new ≡ u ∷ [] → has (item_uids items) u ≡ false → AreDifferent (item_uids items) → AreDifferent (item_uids (items ++ new))
one_more_uid items new u e h d =
    let D : List ℕ → Type 0 = λ us. AreDifferent us in
    subst D (sym (filter_map-append (λ i. i.uid) items new ∙ ap (λ us. item_uids items ++ us) e)) (AreDifferent-push (item_uids items) u d h)

one_item : (item : ItemValue) (u : ℕ) → item.uid ≡ Some u → item_uids (item ∷ []) ≡ u ∷ []
one_item item u e = ap (λ o. cons_option o []) e

no_item : (item : ItemValue) → item.uid ≡ None → item_uids (item ∷ []) ≡ []
no_item item e = ap (λ o. cons_option o []) e

-- ---- where an item stands

none_there : (j : ℕ) (item : ItemValue) → slice_get [] j ≡ Some item → ⊥
none_there zero item h = cc
none_there (suc j) item h = cc

only_there : (j : ℕ) (item own : ItemValue) → slice_get (own ∷ []) j ≡ Some item → own ≡ item
only_there zero item own h = cc
only_there (suc j) item own h = absurd (none_there j item h)

either_part : (xs ys : List ItemValue) (j : ℕ) (item : ItemValue) → slice_get (xs ++ ys) j ≡ Some item → (slice_get xs j ≡ Some item) ⊎ ((i : ℕ) × (slice_get ys i ≡ Some item))
either_part [] ys j item h = inr (j, h)
either_part (x ∷ xs) ys zero item h = inl h
either_part (x ∷ xs) ys (suc j) item h = either_part xs ys j item h

nothing_spelled : (u : ℕ) → spelled_uid [] ≡ Some u → ⊥
nothing_spelled u h = cc

-- a cell that spells a UID is there
cell_there : (cells : List (List ℕ)) (i u : ℕ) → spelled_uid (cell_at cells i) ≡ Some u → slice_get cells i ≡ Some (cell_at cells i)
cell_there [] zero u h = absurd (nothing_spelled u h)
cell_there [] (suc i) u h = absurd (nothing_spelled u h)
cell_there (cell ∷ cells) zero u h = refl
cell_there (cell ∷ cells) (suc i) u h = cell_there cells i u h

spelled_told : (cell : List ℕ) (u : ℕ) → spelled_uid cell ≡ Some u → has (told_uids cell) u ≡ true
spelled_told cell u h =
    list_any-append (nat_eq u) (filter_map hex_uid (hex_runs cell)) (as_list (spelled_uid cell))
    ∙ or_right (has (filter_map hex_uid (hex_runs cell)) u) (has (as_list (spelled_uid cell)) u) (ap (λ o. has (as_list o) u) h ∙ or_left (nat_eq u u) false (eq-eqb u u refl))

module _ (c : CatalogueColumns) (lines : List (List ℕ)) (clean : HasNoFault lines) (columns_are : columns_named lines ≡ Some (Catalogue c)) where
  line_clean : (k : ℕ) (line : List ℕ) → slice_get lines (suc k) ≡ Some line → item_line_fault c (item_uids (items_upto c lines (suc k))) line ≡ None
  line_clean k line at =
      sym (ap (fault_by_columns lines (suc k) line) columns_are)
      ∙ (none_of_two (bytes_fault (suc k) line) (line_fault lines (suc k) line) (sym (ap (fault_of lines (suc k)) at) ∙ clean (suc k))).1

  row_clean : (k : ℕ) (line : List ℕ) (cells : List (List ℕ)) → slice_get lines (suc k) ≡ Some line → cells_of (separator_byte c.separator) line ≡ Some cells → is_blank_line cells ≡ false → item_fault c (item_uids (items_upto c lines (suc k))) cells ≡ None
  row_clean k line cells at split full =
      sym (cond-false (is_blank_line cells) None (item_fault c (item_uids (items_upto c lines (suc k))) cells) full)
      ∙ (sym (ap (cells_item_fault c (item_uids (items_upto c lines (suc k)))) split) ∙ line_clean k line at)

  row_item_is : (k : ℕ) (line : List ℕ) (cells : List (List ℕ)) → slice_get lines (suc k) ≡ Some line → cells_of (separator_byte c.separator) line ≡ Some cells → is_blank_line cells ≡ false
      → items_upto c lines (suc (suc k)) ≡ items_upto c lines (suc k) ++ item_of c (suc (suc k)) line cells ∷ []
  row_item_is k line cells at split full =
      ap (λ o. items_upto c lines (suc k) ++ item_on c (suc k) o) at
      ∙ ap (λ xs. items_upto c lines (suc k) ++ xs) (ap (cells_item c (suc (suc k)) line) split ∙ cond-false (is_blank_line cells) [] (item_of c (suc (suc k)) line cells ∷ []) full)

  -- the row's own cell
  own_cell : (cells : List (List ℕ)) (u : ℕ) → is_wrong_uid (cell_at cells c.uid) ≡ false → has (told_uids (cell_at cells c.uid)) u ≡ true → spelled_uid (cell_at cells c.uid) ≡ Some u
  own_cell cells u right told = go (spelled_uid (cell_at cells c.uid)) refl where
    h : HasDigits (cell_at cells c.uid) u
    h = told_has (cell_at cells c.uid) u told

    go : (o : Option ℕ) → o ≡ spelled_uid (cell_at cells c.uid) → spelled_uid (cell_at cells c.uid) ≡ Some u
    go None e =
        let not_word : (true && not (is_word (codes "none") (cell_at cells c.uid))) ≡ false = ap (λ o. is_none o && not (is_word (codes "none") (cell_at cells c.uid))) e ∙ right in
        absurd (omega (arith, h.enough, word_is_short (codes "none") (cell_at cells c.uid) (is_true (is_word (codes "none") (cell_at cells c.uid)) not_word)))
    go (Some v) e = sym e ∙ ap Some (h.only v (sym e))

  -- no cell of the first line tells a UID
  first_tells_none : (line : List ℕ) (cells : List (List ℕ)) (j : ℕ) (cell : List ℕ) (u : ℕ) → slice_get lines 0 ≡ Some line → cells_of (separator_byte c.separator) line ≡ Some cells → slice_get cells j ≡ Some cell → has (told_uids cell) u ≡ true → ⊥
  first_tells_none line cells j cell u at split there told = absurd (omega (arith, (told_has cell u told).enough, word_is_short (codes "uid") cell is_uid_word)) where
    named : columns_of line ≡ Some (Catalogue c)
    named = sym (ap (option_and_then columns_of) at) ∙ columns_are

    right : columns_fault line (columns_of line) ≡ None
    right = (if_none (is_misquoted line) fault.Quote (columns_fault line (columns_of line)) (none_of_two (bytes_fault 0 line) (first_line_fault line) (sym (ap (fault_of lines 0) at) ∙ clean 0)).1).1

    names_right : names_fault (Catalogue c) cells ≡ None
    names_right = sym (ap (option_and_then (names_fault (Catalogue c))) split) ∙ (sym (ap (columns_fault line) named) ∙ right)

    none_elsewhere : tells_elsewhere c cells ≡ false
    none_elsewhere = (if_none (tells_elsewhere c cells) fault.UidElsewhere None (if_none (are_of_result cells) fault.Result (if tells_elsewhere c cells then Some fault.UidElsewhere else None) names_right).1).0

    own : j ≡ c.uid
    own = elsewhere c cells j cell u none_elsewhere there told

    is_uid_word : is_word (codes "uid") cell ≡ true
    is_uid_word =
        let one = under_one line (Catalogue c) named in
        let k = cells_under one.0 (cells_of (separator_byte one.0) line) (Catalogue c) one.1 in
        let column = uid_column one.0 k.0 c k.2 in
        let same_separator : c.separator ≡ one.0 = ap (λ d. d.separator) column.0 in
        let same_cells : cells ≡ k.0 = same_some cells k.0 (sym split ∙ (ap (λ t. cells_of (separator_byte t) line) same_separator ∙ k.1)) in
        let f = found (is_word (codes "uid")) k.0 (and_first _ _ _ column.1) in
        let place : c.uid ≡ f.0 = ap (λ d. d.uid) column.0 ∙ ap (λ o. unwrap_or o 0) f.1 in
        let at_own : is_word (codes "uid") (get_or cells j []) ≡ true = ap (λ cs. is_word (codes "uid") (get_or cs j [])) same_cells ∙ (ap (λ i. is_word (codes "uid") (get_or k.0 i [])) (own ∙ place) ∙ f.2) in
        sym (ap (is_word (codes "uid")) (get_or_from_slice_get cells j cell [] there)) ∙ at_own

  -- a cell of a row
  row_tells : (k : ℕ) (line : List ℕ) (cells : List (List ℕ)) (j : ℕ) (cell : List ℕ) (u : ℕ) → slice_get lines (suc k) ≡ Some line → cells_of (separator_byte c.separator) line ≡ Some cells → slice_get cells j ≡ Some cell → has (told_uids cell) u ≡ true
      → (is_blank_line cells ≡ false) × (spelled_uid (cell_at cells c.uid) ≡ Some u)
  row_tells k line cells j cell u at split there told = elim (cases_Bool (is_blank_line cells)) [
    | inl blank ↦ absurd (not_blank blank)
    | inr full ↦ (full, own full)
  ] where
    not_blank : is_blank_line cells ≡ true → ⊥
    not_blank blank = elim (cases_Bool (is_blank cell)) [
      | inl is ↦ let none = ap length (blank_has_none cell is) in absurd (omega (arith, none, (told_has cell u told).enough))
      | inr other ↦ let no_ = list_all_fails is_blank cells j cell there other in cc
    ]

    own : is_blank_line cells ≡ false → spelled_uid (cell_at cells c.uid) ≡ Some u
    own full =
        let none = row_clean k line cells at split full in
        let shape = (none_of_two (shape_fault c cells) (behind_shape c (item_uids (items_upto c lines (suc k))) cells) (sym (item_fault-parts c (item_uids (items_upto c lines (suc k))) cells) ∙ none)).0 in
        let sized = if_none (not (length cells == c.count)) fault.Cells (if is_wrong_uid (cell_at cells c.uid) then Some fault.Uid else (if tells_elsewhere c cells then Some fault.UidElsewhere else None)) shape in
        let uid_right = if_none (is_wrong_uid (cell_at cells c.uid)) fault.Uid (if tells_elsewhere c cells then Some fault.UidElsewhere else None) sized.1 in
        let else_right = if_none (tells_elsewhere c cells) fault.UidElsewhere None uid_right.1 in
        let here = elsewhere c cells j cell u else_right.0 there told in
        let same : cell ≡ cell_at cells c.uid = sym (get_or_from_slice_get cells j cell [] there) ∙ ap (λ i. get_or cells i []) here in
        own_cell cells u uid_right.0 (sym (ap (λ x. has (told_uids x) u) same) ∙ told)

  -- the UIDs of the first lines are different
  row_once : (j : ℕ) (line : List ℕ) (cells : List (List ℕ)) → slice_get lines (suc j) ≡ Some line → cells_of (separator_byte c.separator) line ≡ Some cells → is_blank_line cells ≡ false → AreDifferent (item_uids (items_upto c lines (suc j)))
      → (o : Option ℕ) → o ≡ spelled_uid (cell_at cells c.uid) → AreDifferent (item_uids (items_upto c lines (suc j) ++ item_of c (suc (suc j)) line cells ∷ []))
  row_once j line cells at split full d None e = no_more_uids (items_upto c lines (suc j)) (item_of c (suc (suc j)) line cells ∷ []) (no_item (item_of c (suc (suc j)) line cells) (sym e)) d
  row_once j line cells at split full d (Some u) e =
      let before = item_uids (items_upto c lines (suc j)) in
      let behind = (none_of_two (shape_fault c cells) (behind_shape c before cells) (sym (item_fault-parts c before cells) ∙ row_clean j line cells at split full)).1 in
      let not_given = (if_none (is_given before (spelled_uid (cell_at cells c.uid))) fault.DuplicateUid (place_or_away_fault c cells) behind).0 in
      one_more_uid (items_upto c lines (suc j)) (item_of c (suc (suc j)) line cells ∷ []) u (one_item (item_of c (suc (suc j)) line cells) u (sym e)) (ap (is_given before) e ∙ not_given) d

  line_once : (j : ℕ) (line : List ℕ) → slice_get lines (suc j) ≡ Some line → AreDifferent (item_uids (items_upto c lines (suc j)))
      → (o : Option (List (List ℕ))) → o ≡ cells_of (separator_byte c.separator) line → AreDifferent (item_uids (items_upto c lines (suc j) ++ cells_item c (suc (suc j)) line o))
  line_once j line at d None e = no_more_uids (items_upto c lines (suc j)) [] refl d
  line_once j line at d (Some cells) e = elim (cases_Bool (is_blank_line cells)) [
    | inl blank ↦ no_more_uids (items_upto c lines (suc j)) (cells_item c (suc (suc j)) line (Some cells)) (ap item_uids (cond-true (is_blank_line cells) [] (item_of c (suc (suc j)) line cells ∷ []) blank)) d
    | inr full ↦
        let D : List ItemValue → Type 0 = λ new. AreDifferent (item_uids (items_upto c lines (suc j) ++ new)) in
        subst D (sym (cond-false (is_blank_line cells) [] (item_of c (suc (suc j)) line cells ∷ []) full)) (row_once j line cells at (sym e) full d (spelled_uid (cell_at cells c.uid)) refl)
  ]

  on_once : (j : ℕ) → AreDifferent (item_uids (items_upto c lines (suc j))) → (o : Option (List ℕ)) → o ≡ slice_get lines (suc j) → AreDifferent (item_uids (items_upto c lines (suc j) ++ item_on c (suc j) o))
  on_once j d None e = no_more_uids (items_upto c lines (suc j)) [] refl d
  on_once j d (Some line) e = line_once j line (sym e) d (cells_of (separator_byte c.separator) line) refl

  once_upto : (n : ℕ) → AreDifferent (item_uids (items_upto c lines n))
  once_upto zero = tt
  once_upto (suc zero) = no_more_uids [] [] refl tt
  once_upto (suc (suc j)) = on_once j (once_upto (suc j)) (slice_get lines (suc j)) refl

  told_is : (n u : ℕ) → IsInCell c lines n u → IsInItem (items_upto c lines (length lines)) n u
  told_is zero u t = absurd (first_tells_none t.line t.cells t.index t.cell u t.there t.split t.in_it t.told)
  told_is (suc k) u t =
      let row = row_tells k t.line t.cells t.index t.cell u t.there t.split t.in_it t.told in
      let item = item_of c (suc (suc k)) t.line t.cells in
      let here = ap (λ xs. slice_get xs (length (items_upto c lines (suc k)))) (row_item_is k t.line t.cells t.there t.split row.0) ∙ get_seam (items_upto c lines (suc k)) item in
      let low = slice_get_within lines (suc k) t.line t.there in
      let all : (length lines - suc (suc k)) + suc (suc k) ≡ length lines = omega arith in
      let later = more_items c lines (suc (suc k)) (length lines - suc (suc k)) (length (items_upto c lines (suc k))) item here in
      record { index = length (items_upto c lines (suc k)); item = item; there = ap (λ m. slice_get (items_upto c lines m) (length (items_upto c lines (suc k)))) (sym all) ∙ later; line_is = refl; uid_is = row.1 }

  -- ---- an item's line

  row_told : (k u : ℕ) (line : List ℕ) (cells : List (List ℕ)) → slice_get lines (suc k) ≡ Some line → cells_of (separator_byte c.separator) line ≡ Some cells → spelled_uid (cell_at cells c.uid) ≡ Some u → IsInCell c lines (suc k) u
  row_told k u line cells at split spells = record {
    line = line;
    there = at;
    cells = cells;
    split = split;
    index = c.uid;
    cell = cell_at cells c.uid;
    in_it = cell_there cells c.uid u spells;
    told = spelled_told (cell_at cells c.uid) u spells;
  }

  in_cells : (k n u : ℕ) (line : List ℕ) → slice_get lines (suc k) ≡ Some line → (o : Option (List (List ℕ))) → o ≡ cells_of (separator_byte c.separator) line → (j : ℕ) (item : ItemValue) → slice_get (cells_item c (suc (suc k)) line o) j ≡ Some item → item.line ≡ suc n → item.uid ≡ Some u → IsInCell c lines n u
  in_cells k n u line at None e j item there l i = absurd (none_there j item there)
  in_cells k n u line at (Some cells) e j item there l i = elim (cases_Bool (is_blank_line cells)) [
    | inl blank ↦ absurd (none_there j item (sym (ap (λ xs. slice_get xs j) (cond-true (is_blank_line cells) [] (item_of c (suc (suc k)) line cells ∷ []) blank)) ∙ there))
    | inr full ↦
        let same = only_there j item (item_of c (suc (suc k)) line cells) (sym (ap (λ xs. slice_get xs j) (cond-false (is_blank_line cells) [] (item_of c (suc (suc k)) line cells ∷ []) full)) ∙ there) in
        let number : n ≡ suc k = omega (arith, l, ap (λ x. x.line) same) in
        rw number (row_told k u line cells at (sym e) (ap (λ x. x.uid) same ∙ i))
  ]

  in_line : (k n u : ℕ) (o : Option (List ℕ)) → o ≡ slice_get lines k → (j : ℕ) (item : ItemValue) → slice_get (item_on c k o) j ≡ Some item → item.line ≡ suc n → item.uid ≡ Some u → IsInCell c lines n u
  in_line zero n u o e j item there l i = absurd (none_there j item there)
  in_line (suc k) n u None e j item there l i = absurd (none_there j item there)
  in_line (suc k) n u (Some line) e j item there l i = in_cells k n u line (sym e) (cells_of (separator_byte c.separator) line) refl j item there l i

  kept_upto : (m n u j : ℕ) (item : ItemValue) → slice_get (items_upto c lines m) j ≡ Some item → item.line ≡ suc n → item.uid ≡ Some u → IsInCell c lines n u
  kept_upto zero n u j item there l i = absurd (none_there j item there)
  kept_upto (suc m) n u j item there l i = elim (either_part (items_upto c lines m) (item_on c m (slice_get lines m)) j item there) [
    | inl before ↦ kept_upto m n u j item before l i
    | inr here ↦ in_line m n u (slice_get lines m) refl here.0 item here.1 l i
  ]

pub conserved : UidsAreConserved
conserved text catalogue is = record {
  told = λ n u t. ap_items n u (told_is catalogue.columns (table_lines text) is.no_fault is.columns n u t);
  kept = λ n u t. kept_upto catalogue.columns (table_lines text) is.no_fault is.columns (length (table_lines text)) n u t.index t.item (ap (λ items. slice_get items t.index) (sym is.items) ∙ t.there) t.line_is t.uid_is;
  once = rw is.items (once_upto catalogue.columns (table_lines text) is.no_fault is.columns (length (table_lines text)));
} where
  ap_items : (n u : ℕ) → IsInItem (items_upto catalogue.columns (table_lines text) (length (table_lines text))) n u → IsInItem catalogue.items n u
  ap_items n u h = rw is.items h
