use Rattle.vic_margin.proofs.Words.{arith, length, ◌≡◌, ◌-◌, ◌+◌}
use Rattle.vic_log.specs.Order.{entries}
use Rattle.vic_walk.proofs.CutLaws.{place_at}
use Rattle.vic_walk.specs.Steps.{AreLogParts}
use Rattle.vic_margin.proofs.Steps.{tally_past}
use Rattle.vic_margin.proofs.margins.part_margins.Goals as goal

pub loop-index-init : goal.loop-index-init
loop-index-init c = c.in_ok-tally.ensures (entries c.of-lines.result)

pub loop-index-preserved : goal.loop-index-preserved
loop-index-preserved c =
    let es = entries c.of-lines.result in
    let l = c.loop-index in
    let cut : AreLogParts es c.args.log_parts = rw c.of-lines.ensures.value c.requires in
    c.pass.ensures _ es l.index (place_at es c.args.log_parts l.index _ c.index.result.now cut c.entry-entry.ensures.here (omega (arith, c.loop-index-test.true, c.len-index-end.ensures)) c.index.ensures) l.invariant

pub pass-requires-clause-few : goal.pass-requires-clause-few
pass-requires-clause-few c =
    let few = c.loop-index.invariant.few in
    omega (arith, c.entry-entry.ensures.position, few)

pub pass-requires-clause-step : goal.pass-requires-clause-step
pass-requires-clause-step c =
    let es = entries c.of-lines.result in
    let l = c.loop-index in
    let cut : AreLogParts es c.args.log_parts = rw c.of-lines.ensures.value c.requires in
    rw l.invariant.room ((place_at es c.args.log_parts l.index _ c.index.result.now cut c.entry-entry.ensures.here (omega (arith, c.loop-index-test.true, c.len-index-end.ensures)) c.index.ensures).step.below)

pub invariant_of-result : goal.invariant_of-result
invariant_of-result c =
    let es = entries c.of-lines.result in
    let n = length c.args.log_parts.steps.items in
    let cut : AreLogParts es c.args.log_parts = rw c.of-lines.ensures.value c.requires in
    let within = cut.within in
    let end : c.loop-index.index ≡ n = omega (arith, c.len-index-end.ensures, c.loop-index-test.false, c.loop-index.auto.index-end) in
    let past = tally_past _ es n (length es - n) _ cut.list (omega (arith, within)) (rw end at c.loop-index.invariant) in
    let last : n + (length es - n) ≡ length es = omega (arith, within) in
    rw c.in_ok-parts.ensures (record { borders = cut.borders; margins = rw (← c.of-lines.ensures.value) (c.margins-each.ensures _ es (rw last at past)) })
