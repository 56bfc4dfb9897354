use Rattle.vic_collection.proofs.Words.{◌≡◌, ◌∙◌, arith, sym, ap, map, slice_get, [], ◌∷◌}
use Rattle.std.specs.Prelude.{option_to_list}
use Rattle.std.specs.Option.{option_map}
use Rattle.vic_collection.specs.Joins.{place_if_expected}
use Rattle.vic_collection.proofs.Elements.{item_at, some_at}
use Rattle.vic_collection.proofs.Without.{items_added, none_added}
use Rattle.vic_collection.proofs.without_log.add_items.Goals as goal
use Rattle.vic_collection.proofs.without_log.add_items.Goals.{in-Some+in_ok-add, in_default}

pub loop-index-preserved : goal.loop-index-preserved
loop-index-preserved c =
    let items = c.args.catalogue.now.items in
    let i = c.loop-index.index in
    let found = item_at items i (omega (arith, c.loop-index-test.true, c.len-index-end.ensures)) in
    let item = found.0 in
    let is = some_at (slice_get items i) (λ t. option_to_list (option_map (λ p. p.now) c.expected_place.result) ≡ place_if_expected t) item found.1 c.expected_place.ensures in
    let before = map (λ p. p.now) c.args.without.now.items in
    let between = map (λ p. p.now) c.loop-index.without.items in
    elim c.match-expected_place.branch [
      | in-Some+in_ok-add w ↦
          let one : place_if_expected item ≡ w.in-Some.place.now ∷ [] = sym is ∙ ap (λ o. option_to_list (option_map (λ p. p.now) o)) w.in-Some.is in
          rw (w.known-is, w.without-is) (items_added c.args.known.now c.loop-index.known w.add.new.known before between (map (λ p. p.now) w.add.new.without.items) items i item found.1 c.loop-index.invariant (rw one w.in_ok-add.ensures))
      | in_default w ↦
          let none : place_if_expected item ≡ [] = sym is ∙ ap (λ o. option_to_list (option_map (λ p. p.now) o)) w.in_default.is in
          rw (w.known-is, w.without-is) (items_added c.args.known.now c.loop-index.known c.loop-index.known before between between items i item found.1 c.loop-index.invariant (rw none (none_added c.loop-index.known between)))
    ]
