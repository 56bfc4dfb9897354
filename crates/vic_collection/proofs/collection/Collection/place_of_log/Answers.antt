use Rattle.vic_collection.proofs.Words.{◌≡◌, ◌∙◌, ap, sym, slice_get, Some, None}
use Rattle.std.specs.Option.{option_map}
use Rattle.vic_collection.specs.Collections.{CollectionValue}
use Rattle.vic_collection.specs.Joins.{place_of_log}
use Rattle.vic_collection.proofs.Elements.{item_at, same_at, some_and}
use Rattle.vic_collection.proofs.collection.Collection.place_of_log.Goals as goal

pub returns-in-Some : goal.returns-in-Some
returns-in-Some c =
    let inside = c.self.inside in
    let view : CollectionValue = record { catalogue = inside.catalogue; rows = inside.rows; surveys = inside.surveys.items } in
    let found = item_at c.args.self.now.surveys c.args.index c.requires in
    let place : option_map (λ p. p.items) c.index.result.now ≡ place_of_log view found.0 = same_at (option_map (λ p. p.items)) (place_of_log view) inside.places.items inside.surveys.items c.args.index c.index.result.now found.0 c.self.invariant.0 c.index.ensures (ap (λ v. slice_get v.surveys c.args.index) c.self.view_is ∙ found.1) in
    some_and (slice_get c.args.self.now.surveys c.args.index) (λ s. Some c.as_slice.result.now ≡ place_of_log c.args.self.now s) found.0 found.1
    (ap Some c.as_slice.ensures.value ∙ (ap (option_map (λ p. p.items)) (sym c.in-Some.is) ∙ (place ∙ ap (λ v. place_of_log v found.0) c.self.view_is)))

pub returns-in-None : goal.returns-in-None
returns-in-None c =
    let inside = c.self.inside in
    let view : CollectionValue = record { catalogue = inside.catalogue; rows = inside.rows; surveys = inside.surveys.items } in
    let found = item_at c.args.self.now.surveys c.args.index c.requires in
    let place : option_map (λ p. p.items) c.index.result.now ≡ place_of_log view found.0 = same_at (option_map (λ p. p.items)) (place_of_log view) inside.places.items inside.surveys.items c.args.index c.index.result.now found.0 c.self.invariant.0 c.index.ensures (ap (λ v. slice_get v.surveys c.args.index) c.self.view_is ∙ found.1) in
    some_and (slice_get c.args.self.now.surveys c.args.index) (λ s. None ≡ place_of_log c.args.self.now s) found.0 found.1
    (ap (option_map (λ p. p.items)) (sym c.in-None.is) ∙ (place ∙ ap (λ v. place_of_log v found.0) c.self.view_is))
