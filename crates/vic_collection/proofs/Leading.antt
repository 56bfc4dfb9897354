-- The places to which names lead, with one item or one row more.
use Rattle.vic_collection.proofs.Words.{◌≡◌, ℕ, ◌+◌, List, [], ◌∷◌, ◌++◌, Bool, true, false, ◌||◌, cond, Option, Some, None, refl, sym, ap, ◌∙◌, list_any, slice_get, take, bytes_eq, or-false, is_some, false≢true, take_more, slice_get_within, get_or_from_slice_get}
use Rattle.std.specs.Borrow.{Bor}
use Rattle.std.specs.BTreeMap.{BTreeMap, UpdatesBy, get_by}
use Rattle.std.specs.Cmp.Lexicographic.{slice_cmp}
use Rattle.std.specs.Option.{option_map, option_or}
use Rattle.std.specs.Ordering.{nat_cmp}
use Rattle.std.proofs.lemmas.Map.Text.{btree_map_updates_str}
use Rattle.std.proofs.lemmas.Slice.Eq.{bytes_eq-Decides}
use Rattle.vic_table.specs.Values.{ItemValue, PlaceRowValue}
use Rattle.vic_collection.specs.Joins.{is_text, place_in_rows, place_of_items}
use Rattle.vic_collection.specs.inner.NameSets.{lead}
use Rattle.vic_collection.proofs.Elements.{list_any_next}

or_none : {X : Type 0} (o : Option X) → option_or o None ≡ o
or_none None = refl
or_none (Some x) = refl

-- the map with the place of one name more
pub lead-insert : (old new : BTreeMap (Bor (List ℕ)) (Bor (List ℕ))) (key place : Bor (List ℕ)) → UpdatesBy (λ x y. slice_cmp nat_cmp x.now y.now) (λ k. slice_cmp nat_cmp key.now k.now) old new (Some place) → (q : List ℕ) → lead new q ≡ cond (bytes_eq key.now q) (Some place.now) (lead old q)
lead-insert old new key place h q = ap (option_map (λ (p : Bor (List ℕ)). p.now)) (btree_map_updates_str key.now old new (Some place) h q) ∙ go (bytes_eq key.now q) where
  go : (b : Bool) → option_map (λ (p : Bor (List ℕ)). p.now) (cond b (Some place) (get_by (λ k. slice_cmp nat_cmp q k.now) old)) ≡ cond b (Some place.now) (lead old q)
  go true = refl
  go false = refl

-- ---- an item more

items_step : (p q : List ℕ) (l b : Bool) → bytes_eq p q ≡ b → cond b (Some p) (cond l (Some q) None) ≡ cond (l || b) (Some q) None
items_step p q true true e = ap Some ((bytes_eq-Decides p q).0 e)
items_step p q false true e = ap Some ((bytes_eq-Decides p q).0 e)
items_step p q true false e = refl
items_step p q false false e = refl

module _ (items : List ItemValue) (i : ℕ) (item : ItemValue) (at : slice_get items i ≡ Some item) where
  next : (q : List ℕ) → place_of_items (take (i + 1) items) q ≡ cond (list_any (λ t. is_text q t.place) (take i items) || is_text q item.place) (Some q) None
  next q = ap (λ (b : Bool). cond b (Some q) None) (list_any_next (λ t. is_text q t.place) items i item at)

  pub place_of_items-place : (p : List ℕ) → item.place ≡ Some p → (q : List ℕ) → place_of_items (take (i + 1) items) q ≡ cond (bytes_eq p q) (Some p) (place_of_items (take i items) q)
  place_of_items-place p e q = next q ∙ rw e (sym (items_step p q (list_any (λ t. is_text q t.place) (take i items)) (bytes_eq p q) refl))

  pub place_of_items-none : item.place ≡ None → (q : List ℕ) → place_of_items (take (i + 1) items) q ≡ place_of_items (take i items) q
  place_of_items-none e q = next q ∙ rw e (rw (or-false (list_any (λ t. is_text q t.place) (take i items))) refl)

-- ---- a row more

place_in_rows-push : (rows : List PlaceRowValue) (row : PlaceRowValue) (q : List ℕ) → place_in_rows (rows ++ row ∷ []) q ≡ option_or (place_in_rows rows q) (cond (bytes_eq row.log q) (Some row.place) None)
place_in_rows-push [] row q = refl
place_in_rows-push (first ∷ rows) row q = rw (place_in_rows-push rows row q) (go (bytes_eq first.log q)) where
  go : (b : Bool) → cond b (Some first.place) (option_or (place_in_rows rows q) (cond (bytes_eq row.log q) (Some row.place) None)) ≡ option_or (cond b (Some first.place) (place_in_rows rows q)) (cond (bytes_eq row.log q) (Some row.place) None)
  go true = refl
  go false = refl

module _ (rows : List PlaceRowValue) (i : ℕ) (row : PlaceRowValue) (at : slice_get rows i ≡ Some row) where
  place_in_rows-next : (q : List ℕ) → place_in_rows (take (i + 1) rows) q ≡ option_or (place_in_rows (take i rows) q) (cond (bytes_eq row.log q) (Some row.place) None)
  place_in_rows-next q =
      let e : take (i + 1) rows ≡ take i rows ++ row ∷ [] = take_more rows i row (slice_get_within rows i row at) ∙ ap (λ r. take i rows ++ r ∷ []) (get_or_from_slice_get rows i row row at) in
      rw e (place_in_rows-push (take i rows) row q)

  pub place_in_rows-known : is_some (place_in_rows (take i rows) row.log) ≡ true → (q : List ℕ) → place_in_rows (take (i + 1) rows) q ≡ place_in_rows (take i rows) q
  place_in_rows-known h q = place_in_rows-next q ∙ go (bytes_eq row.log q) refl where
    some : (o p : Option (List ℕ)) → is_some o ≡ true → option_or o p ≡ o
    some None p h = absurd (false≢true h)
    some (Some x) p h = refl

    go : (b : Bool) → bytes_eq row.log q ≡ b → option_or (place_in_rows (take i rows) q) (cond b (Some row.place) None) ≡ place_in_rows (take i rows) q
    go true e = some (place_in_rows (take i rows) q) (Some row.place) (ap (λ n. is_some (place_in_rows (take i rows) n)) (sym ((bytes_eq-Decides row.log q).0 e)) ∙ h)
    go false e = or_none (place_in_rows (take i rows) q)

  pub place_in_rows-new : is_some (place_in_rows (take i rows) row.log) ≡ false → (q : List ℕ) → place_in_rows (take (i + 1) rows) q ≡ cond (bytes_eq row.log q) (Some row.place) (place_in_rows (take i rows) q)
  place_in_rows-new h q = place_in_rows-next q ∙ go (bytes_eq row.log q) refl where
    none : (o p : Option (List ℕ)) → is_some o ≡ false → option_or o p ≡ p
    none None p h = refl
    none (Some x) p h = absurd (false≢true (sym h))

    go : (b : Bool) → bytes_eq row.log q ≡ b → option_or (place_in_rows (take i rows) q) (cond b (Some row.place) None) ≡ cond b (Some row.place) (place_in_rows (take i rows) q)
    go true e = none (place_in_rows (take i rows) q) (Some row.place) (ap (λ n. is_some (place_in_rows (take i rows) n)) (sym ((bytes_eq-Decides row.log q).0 e)) ∙ h)
    go false e = or_none (place_in_rows (take i rows) q)

-- ---- the map with an item, or a row, more

pub items_upto : (items : List ItemValue) (i : ℕ) (item : ItemValue) → slice_get items i ≡ Some item → (old new : BTreeMap (Bor (List ℕ)) (Bor (List ℕ))) (key : Bor (List ℕ)) → item.place ≡ Some key.now → UpdatesBy (λ x y. slice_cmp nat_cmp x.now y.now) (λ k. slice_cmp nat_cmp key.now k.now) old new (Some key)
    → ((q : List ℕ) → lead old q ≡ place_of_items (take i items) q) → (q : List ℕ) → lead new q ≡ place_of_items (take (i + 1) items) q
items_upto items i item at old new key e h known q = lead-insert old new key key h q ∙ (ap (cond (bytes_eq key.now q) (Some key.now)) (known q) ∙ sym (place_of_items-place items i item at key.now e q))

module _ (rows : List PlaceRowValue) (i : ℕ) (row : PlaceRowValue) (at : slice_get rows i ≡ Some row) (leads : BTreeMap (Bor (List ℕ)) (Bor (List ℕ))) (known : (q : List ℕ) → lead leads q ≡ place_in_rows (take i rows) q) (log : Bor (List ℕ)) (same : log.now ≡ row.log) where
  has : (b : Bool) → b ≡ is_some (get_by (λ k. slice_cmp nat_cmp log.now k.now) leads) → is_some (place_in_rows (take i rows) row.log) ≡ b
  has b h = ap is_some (sym (known row.log)) ∙ (ap (λ n. is_some (lead leads n)) (sym same) ∙ (go (get_by (λ k. slice_cmp nat_cmp log.now k.now) leads) ∙ sym h)) where
    go : (o : Option (Bor (List ℕ))) → is_some (option_map (λ (p : Bor (List ℕ)). p.now) o) ≡ is_some o
    go None = refl
    go (Some x) = refl

  pub rows_known : true ≡ is_some (get_by (λ k. slice_cmp nat_cmp log.now k.now) leads) → (q : List ℕ) → lead leads q ≡ place_in_rows (take (i + 1) rows) q
  rows_known h q = known q ∙ sym (place_in_rows-known rows i row at (has true h) q)

  pub rows_upto : (new : BTreeMap (Bor (List ℕ)) (Bor (List ℕ))) (place : Bor (List ℕ)) → place.now ≡ row.place → UpdatesBy (λ x y. slice_cmp nat_cmp x.now y.now) (λ k. slice_cmp nat_cmp log.now k.now) leads new (Some place)
      → false ≡ is_some (get_by (λ k. slice_cmp nat_cmp log.now k.now) leads) → (q : List ℕ) → lead new q ≡ place_in_rows (take (i + 1) rows) q
  rows_upto new place e h none q =
      lead-insert leads new log place h q ∙ (rw (same, e, known q) (sym (place_in_rows-new rows i row at (has false none) q)))
