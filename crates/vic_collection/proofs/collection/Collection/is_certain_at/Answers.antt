use Rattle.vic_collection.proofs.Words.{Some, map, list_any, sym, ap, ◌∙◌}
use Rattle.std.specs.Option.{option_map}
use Rattle.vic_collection.specs.Collections.{CollectionValue, certain_logs}
use Rattle.vic_collection.specs.States.{is_certain_at}
use Rattle.vic_collection.specs.inner.Placed.{is_placed}
use Rattle.vic_collection.proofs.Placing.{certain_at}
use Rattle.vic_collection.proofs.collection.Collection.is_certain_at.Goals as goal

pub returns-in-Some : goal.returns-in-Some
returns-in-Some c =
    let inside = c.self.inside in
    let view : CollectionValue = record { catalogue = inside.catalogue; rows = inside.rows; surveys = inside.surveys.items } in
    let place = c.in-Some.place.now in
    let u = c.args.uid in
    let places = map (option_map (λ p. p.items)) inside.places.items in
    let at_view = ap (list_any (is_placed places place)) (c.requires ∙ ap (λ v. certain_logs v u) (sym c.self.view_is)) ∙ certain_at view places place u c.self.invariant.0 in
    c.any_placed.ensures ∙ (ap (λ all. list_any (is_placed (map (option_map (λ p. p.items)) all) place) c.args.logs.now) c.deref.ensures.value ∙ (at_view ∙ (ap (λ v. is_certain_at v (Some place) u) c.self.view_is ∙ ap (λ p. is_certain_at c.args.self.now (option_map (λ b. b.now) p) u) (sym c.in-Some.is))))
