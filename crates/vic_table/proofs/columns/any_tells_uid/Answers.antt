use Rattle.vic_table.proofs.Words.{◌≡◌, ◌+◌, ◌-◌, take, drop, sym, ◌∙◌, arith, or_from}
use Rattle.vic_table.proofs.Elements.{list_any_next, list_any_holds, slice_get-take, slice_get-drop_at}
use Rattle.vic_table.specs.Contents.{tells_uid}
use Rattle.vic_table.proofs.columns.any_tells_uid.Goals as goal

pub returns-then-tells_uid : goal.returns-then-tells_uid
returns-then-tells_uid c =
    let cells = c.args.cells.now in
    let from = c.args.from in
    let i = c.loop-index.index in
    let at = slice_get-drop_at cells from i c.get.result.now (omega arith) c.get.ensures in
    let there = slice_get-take (drop from cells) (c.args.to - from) (i - from) (omega arith) ∙ at in
    sym (list_any_holds tells_uid (take (c.args.to - from) (drop from cells)) (i - from) c.get.result.now there (sym c.tells_uid.ensures ∙ c.if-tells_uid.true))

pub loop-index-preserved : goal.loop-index-preserved
loop-index-preserved c =
    let cells = c.args.cells.now in
    let from = c.args.from in
    let i = c.loop-index.index in
    let at = slice_get-drop_at cells from i c.get.result.now (omega arith) c.get.ensures in
    let e : i + 1 - from ≡ i - from + 1 = omega arith in
    rw e (list_any_next tells_uid (drop from cells) (i - from) c.get.result.now at ∙ or_from _ _ c.loop-index.invariant (sym c.tells_uid.ensures ∙ c.if-tells_uid.false))
