use Rattle.vic_walk.proofs.Words.{arith, refl}
use Rattle.vic_walk.proofs.Ruling.{ruled_out_next}
use Rattle.vic_walk.proofs.walk_state.WalkState.rule_out.Goals as goal

pub loop-part-preserved : goal.loop-part-preserved
loop-part-preserved c =
    let inv = c.loop-part.invariant in
    rw c.has-lost.ensures (ruled_out_next c.args.self.now c.loop-part.self _ c.args.span c.loop-part.from c.args.end c.in-Some.part c.loop-part.lost c.in-Some.ensures.first c.in-Some.ensures.within (omega (arith, c.in-Some.ensures.within, c.requires, inv.room)) c.take.ensures refl refl refl inv)
