-- The places without a log, with some places more.
use Rattle.std.specs.Prelude.{option_to_list}
use Rattle.std.proofs.lemmas.Grind.{flat_map-append}
use Rattle.vic_collection.proofs.Elements.{map_next, taken_more}
use Rattle.vic_collection.proofs.Words.{◌+◌, take, ◌≡◌, ℕ, List, [], ◌∷◌, ◌++◌, Bool, true, false, ◌&&◌, ◌||◌, not, cond, Option, Some, None, refl, sym, ap, ◌∙◌, append_assoc, append-nil, or-false, list_any, list_any-append, bytes_eq, map, slice_get}
use Rattle.std.specs.Borrow.{Bor}
use Rattle.std.specs.BTreeSet.{BTreeSet}
use Rattle.std.specs.List.{All, filter, flat_map}
use Rattle.std.proofs.lemmas.List.Elements.{All-append, All-cons, All-filter, All-head, All-nil, All-tail, filter-append, filter_agree}
use Rattle.std.proofs.lemmas.Slice.Eq.{bytes_eq-Decides}
use Rattle.vic_table.specs.Values.{ItemValue, PlaceRowValue}
use Rattle.vic_collection.specs.Collections.{CollectionValue, asks_for_places}
use Rattle.vic_collection.specs.Alike.{is_among}
use Rattle.vic_collection.specs.Joins.{each_once, is_expected, is_expected_at, is_of_place, is_place_of_rows, is_without_log, place_if_expected, places_asked_for, places_of_rows, places_without_log}
use Rattle.vic_collection.specs.inner.NameSets.{has_name}
use Rattle.vic_collection.specs.inner.Without.{AreAdded}

-- ---- filters

filter_all : {X : Type 0} (xs : List X) → filter (λ x. true) xs ≡ xs
filter_all [] = refl
filter_all (x ∷ xs) = ap (λ l. x ∷ l) (filter_all xs)

filter-filter : {X : Type 0} (p q r : X → Bool) → ((x : X) → r x ≡ (q x && p x)) → (xs : List X) → filter p (filter q xs) ≡ filter r xs
filter-filter p q r both [] = refl
filter-filter p q r both (x ∷ xs) = go (q x) (p x) (r x) refl (both x) (filter-filter p q r both xs) where
  go : (a b d : Bool) → p x ≡ b → d ≡ (a && b) → filter p (filter q xs) ≡ filter r xs → filter p (cond a (x ∷ filter q xs) (filter q xs)) ≡ cond d (x ∷ filter r xs) (filter r xs)
  go true true d pass e rest = rw (pass, e) (ap (λ l. x ∷ l) rest)
  go true false d pass e rest = rw (pass, e) rest
  go false b d pass e rest = rw e rest

pub filter_same : {X : Type 0} (p q : X → Bool) (xs : List X) → All (λ x. p x ≡ q x) xs → filter p xs ≡ filter q xs
filter_same p q [] same = refl
filter_same p q (x ∷ xs) same = rw (All-head (λ y. p y ≡ q y) x xs same, filter_same p q xs (All-tail (λ y. p y ≡ q y) x xs same)) refl

-- ---- each once

once-append : (xs ys : List (List ℕ)) → each_once (xs ++ ys) ≡ each_once xs ++ filter (λ q. not (is_among xs q)) (each_once ys)
once-append [] ys = sym (filter_all (each_once ys))
once-append (x ∷ xs) ys =
    let others : List ℕ → Bool = λ q. not (bytes_eq x q) in
    let none : (q : List ℕ) → not (is_among (x ∷ xs) q) ≡ (not (is_among xs q) && others q) = λ q. not_either (bytes_eq x q) (is_among xs q) in
    ap (λ l. x ∷ l) (ap (filter others) (once-append xs ys) ∙ (filter-append others (each_once xs) (filter (λ q. not (is_among xs q)) (each_once ys)) ∙ ap (λ l. filter others (each_once xs) ++ l) (filter-filter others (λ q. not (is_among xs q)) (λ q. not (is_among (x ∷ xs) q)) none (each_once ys)))) where
      not_either : (a b : Bool) → not (a || b) ≡ (not b && not a)
      not_either true true = refl
      not_either true false = refl
      not_either false true = refl
      not_either false false = refl

All-once : (P : List ℕ → Type 0) (xs : List (List ℕ)) → All P xs → All P (each_once xs)
All-once P [] all = all
All-once P (x ∷ xs) all = All-cons P x (filter (λ q. not (bytes_eq x q)) (each_once xs)) (All-head P x xs all) (All-filter (λ q. not (bytes_eq x q)) P (each_once xs) (All-once P xs (All-tail P x xs all)))

-- ---- places are added

pub none_added : (names : BTreeSet (Bor (List ℕ))) (before : List (List ℕ)) → AreAdded names names before before []
none_added names before = record { known = λ q. sym (or-false (has_name names q)); added = sym (append-nil before) }

pub one_added : (old new : BTreeSet (Bor (List ℕ))) (before after : List (List ℕ)) (place : List ℕ) → ((q : List ℕ) → has_name new q ≡ (has_name old q || bytes_eq place q)) → after ≡ before ++ cond (has_name old place) [] (place ∷ []) → AreAdded old new before after (place ∷ [])
one_added old new before after place more is = record {
  known = λ q. more q ∙ ap (λ (b : Bool). has_name old q || b) (sym (or-false (bytes_eq place q)));
  added = is ∙ ap (λ l. before ++ l) (go (has_name old place));
} where
  go : (b : Bool) → cond b [] (place ∷ []) ≡ cond (not b) (place ∷ []) []
  go true = refl
  go false = refl

pub more_added : (old mid new : BTreeSet (Bor (List ℕ))) (before between after xs ys : List (List ℕ)) → AreAdded old mid before between xs → AreAdded mid new between after ys → AreAdded old new before after (xs ++ ys)
more_added old mid new before between after xs ys first second = record {
  known = λ q. second.known q ∙ (ap (λ (b : Bool). b || is_among ys q) (first.known q) ∙ (either (has_name old q) (is_among xs q) (is_among ys q) ∙ ap (λ (b : Bool). has_name old q || b) (sym (list_any-append (λ o. bytes_eq o q) xs ys))));
  added =
      second.added ∙ (ap (λ l. l ++ filter (λ q. not (has_name mid q)) (each_once ys)) first.added
      ∙ (append_assoc before (filter (λ q. not (has_name old q)) (each_once xs)) (filter (λ q. not (has_name mid q)) (each_once ys))
      ∙ ap (λ l. before ++ l) (ap (λ l. filter (λ q. not (has_name old q)) (each_once xs) ++ l) (sym (filter-filter (λ q. not (has_name old q)) (λ q. not (is_among xs q)) (λ q. not (has_name mid q)) (λ q. ap not (first.known q) ∙ not_either (has_name old q) (is_among xs q)) (each_once ys))) ∙ (sym (filter-append (λ q. not (has_name old q)) (each_once xs) (filter (λ q. not (is_among xs q)) (each_once ys))) ∙ ap (filter (λ q. not (has_name old q))) (sym (once-append xs ys))))));
} where
  either : (a b d : Bool) → ((a || b) || d) ≡ (a || (b || d))
  either true b d = refl
  either false b d = refl

  not_either : (a b : Bool) → not (a || b) ≡ (not b && not a)
  not_either true true = refl
  not_either true false = refl
  not_either false true = refl
  not_either false false = refl

-- ---- of items and rows

pub items_added : (old mid new : BTreeSet (Bor (List ℕ))) (before between after : List (List ℕ)) (items : List ItemValue) (i : ℕ) (item : ItemValue) → slice_get items i ≡ Some item → AreAdded old mid before between (flat_map place_if_expected (take i items)) → AreAdded mid new between after (place_if_expected item)
    → AreAdded old new before after (flat_map place_if_expected (take (i + 1) items))
items_added old mid new before between after items i item at first second = rw (taken_more items i item at, flat_map-append place_if_expected (take i items) (item ∷ []), append-nil (place_if_expected item)) (more_added old mid new before between after (flat_map place_if_expected (take i items)) (place_if_expected item) first second)

pub rows_added : (old mid new : BTreeSet (Bor (List ℕ))) (before between after : List (List ℕ)) (rows : List PlaceRowValue) (i : ℕ) (row : PlaceRowValue) → slice_get rows i ≡ Some row → AreAdded old mid before between (map (λ r. r.place) (take i rows)) → AreAdded mid new between after (row.place ∷ [])
    → AreAdded old new before after (map (λ r. r.place) (take (i + 1) rows))
rows_added old mid new before between after rows i row at first second = rw (map_next (λ r. r.place) rows i row at) (more_added old mid new before between after (map (λ r. r.place) (take i rows)) (row.place ∷ []) first second)

-- ---- the places that are asked for

module _ (c : CollectionValue) (asks : asks_for_places c ≡ true) where
  asked : (q : List ℕ) → (list_any (is_expected_at q) c.catalogue.items || is_place_of_rows q c.rows) ≡ true → not (list_any (is_of_place c q) c.surveys) ≡ is_without_log c q
  asked q e = rw (asks, e) refl

  of_items : (items : List ItemValue) → ((q : List ℕ) → list_any (is_expected_at q) items ≡ true → list_any (is_expected_at q) c.catalogue.items ≡ true) → All (λ q. not (list_any (is_of_place c q) c.surveys) ≡ is_without_log c q) (flat_map place_if_expected items)
  of_items [] among = All-nil (λ q. not (list_any (is_of_place c q) c.surveys) ≡ is_without_log c q)
  of_items (item ∷ items) among = All-append (λ q. not (list_any (is_of_place c q) c.surveys) ≡ is_without_log c q) (place_if_expected item) (flat_map place_if_expected items) (here (is_expected item) item.place refl refl) (of_items items (λ q e. among q (or_right (is_expected_at q item) (list_any (is_expected_at q) items) e))) where
    or_right : (a b : Bool) → b ≡ true → (a || b) ≡ true
    or_right true b e = refl
    or_right false b e = e

    here : (b : Bool) (o : Option (List ℕ)) → is_expected item ≡ b → item.place ≡ o → All (λ q. not (list_any (is_of_place c q) c.surveys) ≡ is_without_log c q) (cond b (option_to_list o) [])
    here false o e at = All-nil (λ q. not (list_any (is_of_place c q) c.surveys) ≡ is_without_log c q)
    here true None e at = All-nil (λ q. not (list_any (is_of_place c q) c.surveys) ≡ is_without_log c q)
    here true (Some place) e at =
        let is : is_expected_at place item ≡ true = rw (at, e, (bytes_eq-Decides place place).1 refl) refl in
        let some : list_any (is_expected_at place) c.catalogue.items ≡ true = among place (rw is refl) in
        All-cons (λ q. not (list_any (is_of_place c q) c.surveys) ≡ is_without_log c q) place [] (asked place (rw some refl)) (All-nil (λ q. not (list_any (is_of_place c q) c.surveys) ≡ is_without_log c q))

  of_rows : (rows : List PlaceRowValue) → ((q : List ℕ) → list_any (λ row. bytes_eq row.place q) rows ≡ true → is_place_of_rows q c.rows ≡ true) → All (λ q. not (list_any (is_of_place c q) c.surveys) ≡ is_without_log c q) (map (λ row. row.place) rows)
  of_rows [] among = All-nil (λ q. not (list_any (is_of_place c q) c.surveys) ≡ is_without_log c q)
  of_rows (row ∷ rows) among = All-cons (λ q. not (list_any (is_of_place c q) c.surveys) ≡ is_without_log c q) row.place (map (λ r. r.place) rows)
      (asked row.place (either (list_any (is_expected_at row.place) c.catalogue.items) (is_place_of_rows row.place c.rows) (among row.place (rw ((bytes_eq-Decides row.place row.place).1 refl) refl)))) (of_rows rows (λ q e. among q (either (bytes_eq row.place q) (list_any (λ r. bytes_eq r.place q) rows) e))) where
        either : (a b : Bool) → b ≡ true → (a || b) ≡ true
        either true b e = refl
        either false b e = e

  of_any_rows : (rows : Option (List PlaceRowValue)) → c.rows ≡ rows → All (λ q. not (list_any (is_of_place c q) c.surveys) ≡ is_without_log c q) (places_of_rows rows)
  of_any_rows None e = All-nil (λ q. not (list_any (is_of_place c q) c.surveys) ≡ is_without_log c q)
  of_any_rows (Some rows) e = of_rows rows (λ q some. rw e some)

  -- what is new to the places of logs is without a log
  pub new_places : (names : BTreeSet (Bor (List ℕ))) → ((q : List ℕ) → has_name names q ≡ list_any (is_of_place c q) c.surveys) → filter (λ q. not (has_name names q)) (each_once (places_asked_for c)) ≡ places_without_log c
  new_places names known =
      filter_agree (λ q. not (has_name names q)) (λ q. not (list_any (is_of_place c q) c.surveys)) (λ q. ap not (known q)) (each_once (places_asked_for c))
      ∙ filter_same (λ q. not (list_any (is_of_place c q) c.surveys)) (is_without_log c) (each_once (places_asked_for c))
      (All-once (λ q. not (list_any (is_of_place c q) c.surveys) ≡ is_without_log c q) (places_asked_for c)
      (All-append (λ q. not (list_any (is_of_place c q) c.surveys) ≡ is_without_log c q) (flat_map place_if_expected c.catalogue.items) (places_of_rows c.rows) (of_items c.catalogue.items (λ q e. e)) (of_any_rows c.rows refl)))

filter_none : {X : Type 0} (xs : List X) → filter (λ x. false) xs ≡ []
filter_none [] = refl
filter_none (x ∷ xs) = filter_none xs

pub none_asked_for : (c : CollectionValue) → asks_for_places c ≡ false → places_without_log c ≡ []
none_asked_for c asks = filter_agree (is_without_log c) (λ q. false) (λ q. rw asks refl) (each_once (places_asked_for c)) ∙ filter_none (each_once (places_asked_for c))
