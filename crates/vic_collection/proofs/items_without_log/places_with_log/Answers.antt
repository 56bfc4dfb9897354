use Rattle.vic_collection.proofs.Words.{◌≡◌, ◌∙◌, ap, sym, ◌||◌, refl, length, slice_get, slice_get_read, Some, or-false, list_any, map, take}
use Rattle.std.specs.Option.{option_map}
use Rattle.vic_collection.specs.Joins.{is_text}
use Rattle.vic_collection.proofs.Elements.{list_any-map_next}
use Rattle.vic_collection.proofs.NameSets.{has_name-insert}
use Rattle.vic_collection.proofs.items_without_log.places_with_log.Goals as goal
use Rattle.vic_collection.proofs.items_without_log.places_with_log.Goals.{in-Some+in_ok-insert, in_default}

pub loop-place-preserved : goal.loop-place-preserved
loop-place-preserved c = λ q.
    let i = c.loop-place.place-index in
    let place = c.place-item.result in
    let at : slice_get c.args.places.now i ≡ Some place = slice_get_read c.args.places.now (length c.args.places.now) i place refl c.loop-place-test.true c.place-item.is in
    let more = list_any-map_next (is_text q) (option_map (λ p. p.items)) c.args.places.now i place at in
    let before = list_any (is_text q) (map (option_map (λ p. p.items)) (take i c.args.places.now)) in
    elim c.match-place.branch [
      | in-Some+in_ok-insert w ↦
          let new = has_name-insert c.loop-place.set w.insert.new.self w.as_slice.result q w.in_ok-insert.ensures.updates.0 in
          rw w.set-is (new ∙ (rw (c.loop-place.invariant q, w.as_slice.ensures.value) (ap (λ o. before || is_text q (option_map (λ p. p.items) o)) (sym w.in-Some.is) ∙ sym more)))
      | in_default w ↦
          rw w.set-is (c.loop-place.invariant q ∙ (sym (or-false before) ∙ (ap (λ o. before || is_text q (option_map (λ p. p.items) o)) (sym w.in_default.is) ∙ sym more)))
    ]
