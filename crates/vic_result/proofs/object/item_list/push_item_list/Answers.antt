use Rattle.vic_result.proofs.Words.{◌≡◌, ◌∙◌, ◌++◌, ◌<◌, ap, length, subst}
use Rattle.vic_table.specs.Values.{ItemValue}
use Rattle.vic_result.specs.ResultObject.{item_of_json}
use Rattle.vic_result.proofs.Commas.{comma_next}
use Rattle.vic_result.proofs.Elements.{item_at, some_at}
use Rattle.vic_result.proofs.object.item_list.push_item_list.Goals as goal

pub loop-index-preserved : goal.loop-index-preserved
loop-index-preserved c =
    let C = c.args.collection.now in
    let i = c.loop-index.index in
    let items = C.catalogue.items in
    let count : c.len-index-end.result ≡ length items = c.len-index-end.ensures ∙ ap (λ k. length k.items) c.catalogue.ensures in
    let found = item_at items i (subst (λ n. i < n) count c.loop-index-test.true) in
    let item = some_at _ (λ (x : ItemValue). c.push_item_at.new.text.items ≡ c.push_comma.new.text.items ++ item_of_json C x) found.0 found.1 c.in_ok-push_item_at.ensures in
    comma_next (item_of_json C) c.args.text.now.items items i found.0 found.1 c.loop-index.invariant c.in_ok-push_comma.ensures item
