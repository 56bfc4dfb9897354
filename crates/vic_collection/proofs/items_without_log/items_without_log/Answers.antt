use Rattle.vic_collection.proofs.Words.{arith, ◌≡◌, take, true, Bool, ◌∙◌, ap, sym, ◌++◌, ◌∷◌, [], slice_get, is_some, map}
use Rattle.std.specs.Option.{option_map}
use Rattle.vic_table.specs.Values.{ItemValue}
use Rattle.vic_table.specs.declared.columns.CatalogueColumns.{CatalogueColumns}
use Rattle.vic_collection.specs.inner.Placed.{is_without_log_among}
use Rattle.vic_collection.proofs.Elements.{item_at, map_next, some_at}
use Rattle.vic_collection.proofs.Placing.{not_asked}
use Rattle.vic_collection.proofs.items_without_log.items_without_log.Goals as goal
use Rattle.vic_collection.proofs.items_without_log.items_without_log.Goals.{then-asks, else-asks}

pub loop-index-preserved : goal.loop-index-preserved
loop-index-preserved c =
    let items = c.args.catalogue.now.items in
    let i = c.loop-index.index in
    let places = map (option_map (λ p. p.items)) c.args.places.now in
    let without = λ (item : ItemValue). is_without_log_among (is_some c.args.catalogue.now.columns.place) places item.place in
    let found = item_at items i (omega (arith, c.loop-index-test.true, c.len-index-end.ensures)) in
    let item = found.0 in
    let asked = c.is_some-asks.ensures ∙ ap (λ (cs : CatalogueColumns). is_some cs.place) c.columns.ensures in
    let this : c.if-asks.without ≡ without item = elim c.if-asks.branch [
      | then-asks w ↦
          let place = some_at (slice_get items i) (λ t. option_map (λ p. p.now) w.place.result ≡ t.place) item found.1 w.place.ensures in
          w.without-is ∙ (w.is_without_log_among-without.ensures places c.in_ok-counted.ensures ∙ (ap (is_without_log_among true places) place ∙ ap (λ (b : Bool). is_without_log_among b places item.place) (sym (sym asked ∙ w.if-asks.true))))
      | else-asks w ↦ w.without-is ∙ (w.if-asks.false ∙ (sym (not_asked places item.place) ∙ ap (λ (b : Bool). is_without_log_among b places item.place) (sym (sym asked ∙ w.if-asks.false))))
    ] in
    c.in_ok-push.ensures.items ∙ (ap (λ l. l ++ c.if-asks.without ∷ []) c.loop-index.invariant ∙ (ap (λ (b : Bool). map without (take i items) ++ b ∷ []) this ∙ sym (map_next without items i item found.1)))
