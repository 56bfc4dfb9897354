use Rattle.vic_log.proofs.Words.{arith, common_steps}
use Rattle.vic_log.proofs.Push.{last_from-last}
use Rattle.vic_log.proofs.log.Log.last_line.Goals as goal

pub returns-in-Some-clause-value : goal.returns-in-Some-clause-value
returns-in-Some-clause-value c = grind (arith, common_steps, last_from-last)

pub returns-in-Some-clause-limit : goal.returns-in-Some-clause-limit
returns-in-Some-clause-limit c = grind (arith, common_steps, last_from-last)
