use Rattle.vic_survey.proofs.ValueWords.{arith, common_steps, eqb-true}
use Rattle.vic_survey.proofs.Spelled.{parted_some, parted_none}
use Rattle.vic_survey.proofs.values.parted.Goals as goal

pub returns-in-Some : goal.returns-in-Some
returns-in-Some c = grind (arith, common_steps, eqb-true, parted_some)

pub returns-in-None : goal.returns-in-None
returns-in-None c = parted_none c.args.byte c.args.bytes.now c.in-None.ensures
