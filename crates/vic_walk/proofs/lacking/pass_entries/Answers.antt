use Rattle.vic_walk.proofs.Words.{◌≡◌, ◌∙◌, ◌<◌, arith, length}
use Rattle.vic_log.specs.Order.{entries}
use Rattle.vic_walk.proofs.CutLaws.{place_at}
use Rattle.vic_walk.proofs.lacking.pass_entries.Goals as goal

pub loop-index-preserved : goal.loop-index-preserved
loop-index-preserved c =
    let es = entries c.args.lines.now in
    let l = c.loop-index in
    let below : l.index < length c.args.log_parts.now.steps.items = omega (arith, c.loop-index-test.true, c.requires.to) in
    let place = place_at es c.args.log_parts.now l.index _ c.index.result.now c.requires.parts c.entry-entry.ensures.here below c.index.ensures in
    record {
      room = c.in_ok-pass.ensures.room ∙ l.invariant.room;
      states = λ set h. c.in_ok-pass.ensures.states _ es set l.index place (l.invariant.states set h);
    }

pub pass-requires : goal.pass-requires
pass-requires c =
    let below : c.loop-index.index < length c.args.log_parts.now.steps.items = omega (arith, c.loop-index-test.true, c.requires.to) in
    rw c.loop-index.invariant.room ((place_at (entries c.args.lines.now) c.args.log_parts.now c.loop-index.index _ c.index.result.now c.requires.parts c.entry-entry.ensures.here below c.index.ensures).step.below)

pub returns : goal.returns
returns c set h =
    let end : c.loop-index.index ≡ c.args.to = let from = c.requires.from in omega (arith, from, c.loop-index-test.false, c.loop-index.auto.index-end from) in
    rw end at (c.loop-index.invariant.states set h)
