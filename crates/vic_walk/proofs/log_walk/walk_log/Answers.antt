use Rattle.vic_walk.proofs.Words.{◌≡◌, add-one, arith, nat_tests, length, slice_get_within, false≢true, refl, suc, sym, IsWalkAt}
use Rattle.vic_log.specs.Order.{entries}
use Rattle.vic_walk.proofs.CutLaws.{place_at}
use Rattle.vic_walk.proofs.ListLaws.{walk_at_list}
use Rattle.vic_walk.proofs.log_walk.walk_log.Goals as goal

pub loop-index-init : goal.loop-index-init
loop-index-init c = record {
  parts = c.in_ok-log_parts.ensures;
  walk = c.in_ok-walk.ensures c.in_ok-log_parts.log_parts.parts (entries c.args.lines.now) (sym c.count.ensures.count);
  borne = record { answer = λ j u below. absurd (omega arith); openness = λ u heard. absurd (false≢true heard) };
}

pub loop-index-preserved : goal.loop-index-preserved
loop-index-preserved c =
    let es = entries c.args.lines.now in
    let l = c.loop-index in
    let place = place_at es _ l.index _ c.index.result.now l.invariant.parts c.entry-entry.ensures.here (omega (arith, c.loop-index-test.true, c.len-index-end.ensures)) c.index.ensures in
    let fine = c.in_ok-pass.ensures.fine _ es l.index place l.invariant.walk l.invariant.borne in
    record {
      parts = l.invariant.parts;
      walk = c.in_ok-pass.ensures.walk _ es l.index refl place l.invariant.walk;
      borne = fine.0 (let it = c.if-not-branch.false in grind (arith, nat_tests));
    }

pub returns-then-not-branch : goal.returns-then-not-branch
returns-then-not-branch c =
    let es = entries c.args.lines.now in
    let l = c.loop-index in
    let here = c.entry-entry.ensures.here in
    let place = place_at es _ l.index _ c.index.result.now l.invariant.parts here (omega (arith, c.loop-index-test.true, c.len-index-end.ensures)) c.index.ensures in
    let fine = c.in_ok-pass.ensures.fine _ es l.index place l.invariant.walk l.invariant.borne in
    let walk : IsWalkAt c.in_ok-log_parts.log_parts.parts es (suc l.index) c.pass.new.self = rw (← add-one) (c.in_ok-pass.ensures.walk _ es l.index refl place l.invariant.walk) in
    record {
      parts = l.invariant.parts;
      walk = (
        slice_get_within es l.index c.entry-entry.result here,
        walk.states,
        walk.ends,
        l.invariant.borne,
        λ b. let yes_fine = fine.1 (rw add-one b) in let no_fine = c.if-not-branch.true in grind (arith, nat_tests),
      );
    }

pub returns : goal.returns
returns c =
    let l = c.loop-index in
    let parts = l.invariant.parts in
    let end : l.index ≡ length c.in_ok-log_parts.log_parts.steps.items = omega (arith, c.loop-index-test.false, l.auto.index-end, c.len-index-end.ensures) in
    let at = walk_at_list _ (entries c.args.lines.now) _ l.walk parts.list parts.within (rw end at l.invariant.walk) (rw end at l.invariant.borne) in
    record { parts = parts; walk = (at.0.states, at.0.ends, at.1) }

pub pass-requires : goal.pass-requires
pass-requires c =
    let l = c.loop-index in
    rw l.invariant.walk.states.room ((place_at _ _ l.index _ c.index.result.now l.invariant.parts c.entry-entry.ensures.here (omega (arith, c.loop-index-test.true, c.len-index-end.ensures)) c.index.ensures).step.below)
