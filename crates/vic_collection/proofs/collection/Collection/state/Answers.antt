use Rattle.vic_collection.proofs.Words.{◌≡◌, ◌∙◌, ap, sym, subst, slice_get, map, IsSomeAnd, Some, get_or}
use Rattle.std.specs.Option.{option_map}
use Rattle.vic_table.specs.Values.{ItemValue}
use Rattle.vic_collection.specs.Collections.{CollectionValue, asks_for_places}
use Rattle.vic_collection.specs.Joins.{place_of_log}
use Rattle.vic_collection.specs.States.{state_of}
use Rattle.vic_collection.specs.inner.Placed.{is_without_log_among, state_by_place}
use Rattle.vic_collection.proofs.Elements.{map_at, some_and, some_at, some_value}
use Rattle.vic_collection.proofs.Placing.{state_is}
use Rattle.vic_collection.proofs.collection.Collection.state.Goals as goal

pub returns-in-Some : goal.returns-in-Some
returns-in-Some c =
    let inside = c.self.inside in
    let view : CollectionValue = record { catalogue = inside.catalogue; rows = inside.rows; surveys = inside.surveys.items } in
    let items = inside.catalogue.items in
    let i = c.args.index in
    let u = c.in-Some.uid in
    let found = some_value (slice_get items i) (λ item. c.uid.result ≡ item.uid) c.uid.ensures in
    let item = found.0 in
    let uid : item.uid ≡ Some u = sym found.2 ∙ c.in-Some.is in
    let place = some_at (slice_get items i) (λ t. option_map (λ p. p.now) c.place-place.result ≡ t.place) item found.1 c.place-place.ensures in
    let away = some_at (slice_get items i) (λ t. c.is_away.result ≡ t.away) item found.1 c.is_away.ensures in
    let places = map (option_map (λ p. p.items)) inside.places.items in
    let without_log : c.index.result.now ≡ is_without_log_among (asks_for_places view) (map (place_of_log view) view.surveys) item.place =
    c.index.ensures ∙ (ap (λ all. get_or all i c.index.result.now) c.self.invariant.1 ∙ (map_at (λ (t : ItemValue). is_without_log_among (asks_for_places view) places t.place) items i item c.index.result.now found.1 ∙ ap (λ all. is_without_log_among (asks_for_places view) all item.place) c.self.invariant.0)) in
    let state : c.state_by_place.result ≡ state_of view item =
    c.state_by_place.ensures ∙ (ap (λ v. state_by_place v (option_map (λ p. p.now) c.place-place.result) c.is_away.result c.index.result.now u) (sym c.self.view_is) ∙ (rw (place, away) (state_is view i item found.1 u uid c.index.result.now without_log))) in
    subst (λ v. IsSomeAnd (slice_get v.catalogue.items i) (λ t. c.state_by_place.result ≡ state_of v t)) c.self.view_is (some_and (slice_get items i) (λ t. c.state_by_place.result ≡ state_of view t) item found.1 state)
