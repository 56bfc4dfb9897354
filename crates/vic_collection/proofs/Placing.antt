-- The places of logs by their positions, and what lacks a log.
use Rattle.vic_collection.proofs.Words.{◌≡◌, ℕ, ◌+◌, List, Bool, true, false, ◌&&◌, not, cond, Option, Some, None, refl, ap, ◌∙◌, arith, map, list_any, list_any_at, is_some, slice_get, slice_get_within, get_or_from_slice_get, SurveyValue}
use Rattle.std.specs.Option.{option_map}
use Rattle.std.proofs.lemmas.Option.{slice_get-map}
use Rattle.std.proofs.lemmas.Slice.Eq.{bytes_eq-Decides}
use Rattle.vic_table.specs.Values.{ItemValue}
use Rattle.vic_collection.specs.declared.state.State.{State}
use Rattle.vic_collection.specs.declared.state.State.TheVariants.{Returned, InPlace, Misplaced, There, Doubtful, Away, NotCounted, Absent}
use Rattle.vic_collection.specs.Collections.{CollectionValue, asks_for_places, is_certain_in, is_certain_somewhere, is_possible_somewhere, positions_from}
use Rattle.vic_collection.specs.Joins.{is_expected_at, is_of_place, is_text, place_of_log}
use Rattle.vic_collection.specs.States.{is_certain_at, is_place_without_log, state_of}
use Rattle.vic_collection.specs.inner.Placed.{is_without_log_among, is_placed, is_text_in, state_by_place}
use Rattle.vic_collection.proofs.Elements.{list_any-map}
use Rattle.vic_collection.proofs.Telling.{any_position}

-- ---- a log of the place

pub certain_at : (c : CollectionValue) (places : List (Option (List ℕ))) (place : List ℕ) (u : ℕ) → places ≡ map (place_of_log c) c.surveys → list_any (is_placed places place) (positions_from (λ s. is_certain_in s u) 0 c.surveys) ≡ is_certain_at c (Some place) u
certain_at c places place u e =
    let placed : (i : ℕ) (s : SurveyValue) → slice_get c.surveys i ≡ Some s → is_placed places place (0 + i) ≡ is_of_place c place s = λ i s at.
    let z : 0 + i ≡ i = omega arith in
    ap (is_placed places place) z ∙ (ap (λ ps. is_placed ps place i) e ∙ ap (is_text_in place) (slice_get-map (place_of_log c) c.surveys i ∙ ap (option_map (place_of_log c)) at)) in
    any_position (λ s. is_certain_in s u) (is_of_place c place) (is_placed places place) 0 c.surveys placed

-- ---- an item that lacks a log of its place

module _ (c : CollectionValue) (i : ℕ) (item : ItemValue) (at : slice_get c.catalogue.items i ≡ Some item) (u : ℕ) (uid : item.uid ≡ Some u) where
  expected : item.away ≡ false → (q : List ℕ) → item.place ≡ Some q → list_any (is_expected_at q) c.catalogue.items ≡ true
  expected here q place =
      let is : is_expected_at q item ≡ true = rw (place, uid, here, (bytes_eq-Decides q q).1 refl) refl in
      list_any_at (is_expected_at q) c.catalogue.items i item (slice_get_within c.catalogue.items i item at) (ap (is_expected_at q) (get_or_from_slice_get c.catalogue.items i item item at) ∙ is)

  place_without_log : item.away ≡ false → (p : Option (List ℕ)) → item.place ≡ p → is_without_log_among (asks_for_places c) (map (place_of_log c) c.surveys) p ≡ is_place_without_log c p
  place_without_log here None e = refl
  place_without_log here (Some q) e = rw (list_any-map (is_text q) (place_of_log c) c.surveys, expected here q e) (go (asks_for_places c) (not (list_any (is_of_place c q) c.surveys))) where
    go : (a n : Bool) → (a && n) ≡ ((a && true) && n)
    go true n = refl
    go false n = refl

  pub state_is : (without_log : Bool) → without_log ≡ is_without_log_among (asks_for_places c) (map (place_of_log c) c.surveys) item.place → state_by_place c item.place item.away without_log u ≡ state_of c item
  state_is without_log e =
      rw uid (ap (λ (rest : State). cond (item.away && is_certain_somewhere c u) Returned (cond (is_certain_at c item.place u) InPlace (cond (is_some item.place && is_certain_somewhere c u) Misplaced (cond (is_certain_somewhere c u) There (cond (is_possible_somewhere c u) Doubtful rest))))) (tail item.away refl)) where
        tail : (away : Bool) → item.away ≡ away → cond away Away (cond without_log NotCounted Absent) ≡ cond away Away (cond (is_place_without_log c item.place) NotCounted Absent)
        tail true h = refl
        tail false h = ap (λ (b : Bool). cond b NotCounted Absent) (e ∙ place_without_log h item.place refl)

-- where places aren't asked for, none lacks a log
pub not_asked : (places : List (Option (List ℕ))) (place : Option (List ℕ)) → is_without_log_among false places place ≡ false
not_asked places None = refl
not_asked places (Some place) = refl
