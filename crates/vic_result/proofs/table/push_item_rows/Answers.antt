use Rattle.vic_result.proofs.Words.{◌≡◌, ◌∙◌, ◌++◌, ◌+◌, ◌<◌, ap, drop, flat_map, length, List, map, subst, ℕ}
use Rattle.vic_table.specs.Values.{ItemValue}
use Rattle.vic_result.specs.ResultTable.{item_row}
use Rattle.vic_result.proofs.Elements.{item_at, some_at}
use Rattle.vic_result.proofs.Pushed.{part_here}
use Rattle.vic_result.proofs.table.push_item_rows.Goals as goal

pub loop-index-preserved : goal.loop-index-preserved
loop-index-preserved c =
    let C = c.args.collection.now in
    let i = c.loop-index.index in
    let items = C.catalogue.items in
    let t = c.loop-index.text.items in
    let ended = λ (line : List ℕ). line ++ C.catalogue.head_end in
    let count : c.len-index-end.result ≡ length items = c.len-index-end.ensures ∙ ap (λ k. length k.items) c.catalogue.ensures in
    let found = item_at items i (subst (λ n. i < n) count c.loop-index-test.true) in
    let line = some_at _ (λ (x : ItemValue). c.push_row_at.new.text.items ≡ t ++ ended (item_row C x)) found.0 found.1 c.in_ok-push_row_at.ensures in
    ap (λ s. s ++ flat_map ended (map (item_row C) (drop (i + 1) items))) line
    ∙ (part_here ended (item_row C) t items i found.0 found.1 ∙ c.loop-index.invariant)
