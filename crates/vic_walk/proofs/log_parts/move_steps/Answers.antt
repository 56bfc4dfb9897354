use Rattle.std.proofs.Common.{arith}
use Rattle.vic_walk.proofs.CutLaws.{all_moved, moved_next}
use Rattle.vic_walk.proofs.log_parts.move_steps.Goals as goal

pub loop-index-preserved : goal.loop-index-preserved
loop-index-preserved c =
    let l = c.loop-index in
    let size = l.invariant.size in
    moved_next _ _ l.steps.items l.index c.index.result.now _ (omega (arith, size, c.loop-index-test.true, c.len-index-end.ensures)) c.index.ensures (record { from = c.rank_of.ensures; to = c.rank_of-in-loop-index.ensures; own = c.rank_of-in-loop-index-2.ensures }) l.invariant

pub returns-clause-moved : goal.returns-clause-moved
returns-clause-moved c es old new moved placed = all_moved es old new _ _ _ c.loop-index.index moved (omega (arith, c.loop-index-test.false, c.len-index-end.ensures)) c.loop-index.invariant placed
