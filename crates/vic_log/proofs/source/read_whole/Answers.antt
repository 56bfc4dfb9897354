use Rattle.vic_log.proofs.Words.{length-take-le, arith, common_steps, Consumes-trans, take-append-le, length-take}
use Rattle.vic_log.proofs.source.read_whole.Goals as goal

pub loop-piece-preserved : goal.loop-piece-preserved
loop-piece-preserved g c = grind (arith, common_steps, length-take, take-append-le, length-take-le, Consumes-trans)
