use Rattle.vic_log.proofs.Words.{arith, common_steps, eqb-true}
use Rattle.vic_log.proofs.Place.{lacks_all, split_at}
use Rattle.vic_log.proofs.begun.split_line.Goals as goal

pub returns-in-Some : goal.returns-in-Some
returns-in-Some c = grind (arith, common_steps, eqb-true, split_at)

pub returns-in-None : goal.returns-in-None
returns-in-None c = lacks_all c.args.bytes.now c.in-None.ensures
