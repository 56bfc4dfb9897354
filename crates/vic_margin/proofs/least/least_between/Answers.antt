use Rattle.std.proofs.lemmas.List.{get_or_default}
use Rattle.vic_margin.proofs.Words.{arith, length, ◌<◌, ◌∙◌}
use Rattle.vic_margin.proofs.Lowest.{least_end, least_kept, least_next, least_start}
use Rattle.vic_margin.proofs.least.least_between.Goals as goal

pub returns-then-end-from : goal.returns-then-end-from
returns-then-end-from c wanted h = least_kept _ _ wanted _ _ _ c.if-end-from.true h

pub loop-part-init : goal.loop-part-init
loop-part-init c wanted h =
    let first = c.new-first.ensures in
    least_start _ _ wanted _ _ _ _ c.args.margins.now.borders (rw first at c.at-part.ensures) h

pub loop-part-preserved : goal.loop-part-preserved
loop-part-preserved c wanted h =
    let low = c.loop-part.auto.part in
    let each = c.args.margins.now.each.items in
    let lt : c.loop-part.part < length each = omega (arith, c.loop-part-test.true, c.at-part-end.ensures.within, c.args.margins.now.margins.room) in
    let first = c.new-first.ensures in
    let last = c.new-last.ensures in
    rw c.lesser.ensures (least_next _ _ wanted c.args.from c.args.end c.at-part.result c.at-part-end.result c.loop-part.part _ c.loop-part.found c.args.margins.now.borders c.if-end-from.false (rw first at c.at-part.ensures) (rw last at c.at-part-end.ensures) low (omega (arith, c.loop-part-test.true)) (c.index.ensures ∙ get_or_default each c.loop-part.part c.index.result.now 0 lt) (c.loop-part.invariant wanted h))

pub returns : goal.returns
returns c wanted h =
    let last = c.new-last.ensures in
    least_end _ _ wanted _ _ c.at-part-end.result c.loop-part.part _ c.args.margins.now.borders (rw last at c.at-part-end.ensures) (omega (arith, c.loop-part-test.false)) (c.loop-part.invariant wanted h)
