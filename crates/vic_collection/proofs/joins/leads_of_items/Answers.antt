use Rattle.vic_collection.proofs.Words.{ap, sym, ◌≡◌, ◌∙◌, slice_get}
use Rattle.std.specs.Option.{option_map}
use Rattle.vic_collection.proofs.Elements.{some_value}
use Rattle.vic_collection.proofs.Leading.{items_upto, place_of_items-none}
use Rattle.vic_collection.proofs.joins.leads_of_items.Goals as goal
use Rattle.vic_collection.proofs.joins.leads_of_items.Goals.{in-Some+in_ok-insert, in_default}

pub loop-index-preserved : goal.loop-index-preserved
loop-index-preserved c =
    let items = c.args.catalogue.now.items in
    let i = c.loop-index.index in
    let item = some_value (slice_get items i) (λ item. option_map (λ place. place.now) c.place.result ≡ item.place) c.place.ensures in
    elim c.match-place.branch [
      | in-Some+in_ok-insert w ↦ rw w.leads-is (items_upto items i item.0 item.1 c.loop-index.leads w.insert.new.self w.in-Some.place (sym item.2 ∙ ap (option_map (λ place. place.now)) w.in-Some.is) w.in_ok-insert.ensures.updates c.loop-index.invariant)
      | in_default w ↦ rw w.leads-is (λ q. c.loop-index.invariant q ∙ sym (place_of_items-none items i item.0 item.1 (sym item.2 ∙ ap (option_map (λ place. place.now)) w.in_default.is) q))
    ]
