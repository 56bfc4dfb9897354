use Rattle.vic_collection.proofs.Words.{◌≡◌, ◌∙◌, ◌++◌, ◌∷◌, [], arith, ap, sym, map, slice_get, take, length}
use Rattle.vic_table.specs.Values.{CatalogueValue}
use Rattle.vic_collection.specs.States.{state_of}
use Rattle.vic_collection.proofs.Elements.{item_at, map_next, some_at}
use Rattle.vic_collection.proofs.collection.Collection.states.Goals as goal

pub loop-index-preserved : goal.loop-index-preserved
loop-index-preserved c =
    let items = c.args.self.now.catalogue.items in
    let i = c.loop-index.index in
    let count = c.len-count.ensures ∙ ap (λ (k : CatalogueValue). length k.items) c.catalogue.ensures in
    let found = item_at items i (omega (arith, c.loop-index-test.true, count)) in
    let state = some_at (slice_get items i) (λ t. c.state.result ≡ state_of c.args.self.now t) found.0 found.1 c.state.ensures in
    c.in_ok-push.ensures.items ∙ (ap (λ l. l ++ c.state.result ∷ []) c.loop-index.invariant ∙ (ap (λ s. map (state_of c.args.self.now) (take i items) ++ s ∷ []) state ∙ sym (map_next (state_of c.args.self.now) items i found.0 found.1)))
