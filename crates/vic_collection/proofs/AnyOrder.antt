-- The states by surveys in another order.
use Rattle.vic_collection.proofs.Words.{◌≡◌, ◌+◌, ◌↔◌, ℕ, List, [], ◌∷◌, Bool, true, false, ◌&&◌, ◌||◌, cond, not, Option, Some, None, is_some, get_or, length, list_any, refl, sym, ap, subst, ◌∙◌, SurveyValue}
use Rattle.std.specs.List.{position_from}
use Rattle.std.specs.List.Sorted.{IsPermutation}
use Rattle.std.proofs.lemmas.Iterator.Adapters.{position_from-zero}
use Rattle.std.proofs.lemmas.List.Sorted.{list_any-IsPermutation}
use Rattle.std.proofs.lemmas.List.Sums.{length-filter}
use Rattle.vic_frame.specs.Masks.{BitMask}
use Rattle.vic_table.specs.Values.{ItemValue, CatalogueValue, PlaceRowValue}
use Rattle.vic_collection.specs.declared.findings.Findings.{Findings}
use Rattle.vic_collection.specs.declared.state.State.{State}
use Rattle.vic_collection.specs.declared.state.State.TheVariants.{Returned, Misplaced, Doubtful, NotCounted, Absent}
use Rattle.vic_collection.specs.Against.{Agree}
use Rattle.vic_collection.specs.Collections.{CollectionValue, is_certain_in, is_certain_somewhere, is_possible_in, is_possible_somewhere, is_unlisted, tells_nothing}
use Rattle.vic_collection.specs.Findings.{AreFindings, IsUidIn, IsUnsettled, count_there, is_left_open}
use Rattle.vic_collection.specs.Joins.{each_once, is_asked_for, is_of_place, is_without_log, places_asked_for, places_without_log}
use Rattle.vic_collection.specs.States.{is_certain_at, is_there, is_place_without_log, state_by, state_of, state_with}
use Rattle.vic_collection.proofs.Agreeing.{same_first, same_list}
use Rattle.vic_collection.proofs.Without.{filter_same}

some_first : {X : Type 0} (test : X → Bool) (k : ℕ) (xs : List X) → is_some (position_from test k xs) ≡ list_any test xs
some_first test k [] = refl
some_first test k (x ∷ xs) = go (test x) (some_first test (k + 1) xs) where
  go : (b : Bool) → is_some (position_from test (k + 1) xs) ≡ list_any test xs → is_some (cond b (Some k) (position_from test (k + 1) xs)) ≡ (b || list_any test xs)
  go true rest = refl
  go false rest = rest

module _ (catalogue : CatalogueValue) (rows : Option (List PlaceRowValue)) (surveys others : List SurveyValue) (same : IsPermutation surveys others) where
  abbrev one : CollectionValue
  one = record { catalogue = catalogue; rows = rows; surveys = surveys }

  abbrev other : CollectionValue
  other = record { catalogue = catalogue; rows = rows; surveys = others }

  certain : (u : ℕ) → is_certain_somewhere one u ≡ is_certain_somewhere other u
  certain u = list_any-IsPermutation (λ s. is_certain_in s u) surveys others same

  possible : (u : ℕ) → is_possible_somewhere one u ≡ is_possible_somewhere other u
  possible u = list_any-IsPermutation (λ s. is_possible_in s u) surveys others same

  at : (place : Option (List ℕ)) (u : ℕ) → is_certain_at one place u ≡ is_certain_at other place u
  at None u = refl
  at (Some place) u = list_any-IsPermutation (λ s. is_of_place one place s && is_certain_in s u) surveys others same

  place_without_log : (place : Option (List ℕ)) → is_place_without_log one place ≡ is_place_without_log other place
  place_without_log None = refl
  place_without_log (Some place) = ap (λ (b : Bool). is_asked_for one place && not b) (list_any-IsPermutation (is_of_place one place) surveys others same)

  with_uid : (item : ItemValue) (u : ℕ) → state_with one item u ≡ state_with other item u
  with_uid item u = rw (certain u, at item.place u, possible u, place_without_log item.place) refl

  by_uid : (item : ItemValue) (uid : Option ℕ) → state_by one item uid ≡ state_by other item uid
  by_uid item None = refl
  by_uid item (Some u) = with_uid item u

  -- ---- the findings

  uid_in : (state : State) (u : ℕ) → IsUidIn one state u ↔ IsUidIn other state u
  uid_in state u = ((λ w. (w.0, w.1, w.2, sym (by_uid w.0 w.0.uid) ∙ w.3)), (λ w. (w.0, w.1, w.2, by_uid w.0 w.0.uid ∙ w.3)))

  unlisted_same : (u : ℕ) → (is_unlisted one u ≡ true) ↔ (is_unlisted other u ≡ true)
  unlisted_same u = rw (certain u) ((λ h. h), (λ h. h))

  left_open : (u : ℕ) → is_left_open one u ≡ is_left_open other u
  left_open u = rw (certain u, possible u) refl

  unsettled : (m : BitMask) → IsUnsettled one m ↔ IsUnsettled other m
  unsettled m = ((λ h. (h.0, h.1, λ u is lies. sym (left_open u) ∙ h.2 u is lies)), (λ h. (h.0, h.1, λ u is lies. left_open u ∙ h.2 u is lies)))

  without_log : places_without_log one ≡ places_without_log other
  without_log = filter_same (is_without_log one) (is_without_log other) (each_once (places_asked_for one)) (λ k d lt. place_without_log (Some (get_or (each_once (places_asked_for one)) k d)))

  counted : count_there one ≡ count_there other
  counted = sym (length-filter (λ item. is_there (state_of one item)) catalogue.items) ∙ (ap length (filter_same (λ item. is_there (state_of one item)) (λ item. is_there (state_of other item)) catalogue.items (λ k d lt. let item = get_or catalogue.items k d in ap is_there (by_uid item item.uid))) ∙ length-filter (λ item. is_there (state_of other item)) catalogue.items)

  silent : is_some (position_from tells_nothing 0 surveys) ≡ is_some (position_from tells_nothing 0 others)
  silent = some_first tells_nothing 0 surveys ∙ (list_any-IsPermutation tells_nothing surveys others same ∙ sym (some_first tells_nothing 0 others))

  agree : (f g : Findings) → AreFindings one f → AreFindings other g → Agree f g
  agree f g a b = record {
    not_possible = ap is_some (a.not_possible ∙ position_from-zero tells_nothing surveys) ∙ (silent ∙ ap is_some (sym (b.not_possible ∙ position_from-zero tells_nothing others)));
    absent = same_list _ _ _ _ (uid_in Absent) a.absent.uids b.absent.uids;
    unlisted = same_list _ _ _ _ unlisted_same a.unlisted.uids b.unlisted.uids;
    unsettled = same_first _ _ _ _ unsettled a.unsettled b.unsettled;
    doubtful = same_list _ _ _ _ (uid_in Doubtful) a.doubtful.uids b.doubtful.uids;
    misplaced = same_list _ _ _ _ (uid_in Misplaced) a.misplaced.uids b.misplaced.uids;
    returned = same_list _ _ _ _ (uid_in Returned) a.returned.uids b.returned.uids;
    not_counted = same_list _ _ _ _ (uid_in NotCounted) a.not_counted.uids b.not_counted.uids;
    without_log = a.without_log ∙ (without_log ∙ sym b.without_log);
    count = a.count ∙ (counted ∙ sym b.count);
  }

pub state_in_any_order : (c d : CollectionValue) (item : ItemValue) → c.catalogue ≡ d.catalogue → c.rows ≡ d.rows → IsPermutation c.surveys d.surveys → state_of c item ≡ state_of d item
state_in_any_order c d item catalogue rows same =
    by_uid c.catalogue c.rows c.surveys d.surveys same item item.uid
    ∙ (ap (λ (k : CatalogueValue). state_of (record { catalogue = k; rows = c.rows; surveys = d.surveys }) item) catalogue ∙ ap (λ (r : Option (List PlaceRowValue)). state_of (record { catalogue = d.catalogue; rows = r; surveys = d.surveys }) item) rows)

pub agree_in_any_order : (c d : CollectionValue) (f g : Findings) → c.catalogue ≡ d.catalogue → c.rows ≡ d.rows → IsPermutation c.surveys d.surveys → AreFindings c f → AreFindings d g → Agree f g
agree_in_any_order c d f g catalogue rows same a b =
    let with_rows = subst (λ (r : Option (List PlaceRowValue)). AreFindings (record { catalogue = d.catalogue; rows = r; surveys = d.surveys }) g) (sym rows) b in
    let with_both = subst (λ (k : CatalogueValue). AreFindings (record { catalogue = k; rows = c.rows; surveys = d.surveys }) g) (sym catalogue) with_rows in
    agree c.catalogue c.rows c.surveys d.surveys same f g a with_both
