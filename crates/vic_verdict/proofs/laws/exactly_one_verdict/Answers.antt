use Rattle.vic_verdict.proofs.Verdicts.{some_verdict, one_verdict}
use Rattle.vic_verdict.proofs.laws.exactly_one_verdict.Goals as goal

pub returns-clause-some : goal.returns-clause-some
returns-clause-some c = some_verdict

pub returns-clause-one : goal.returns-clause-one
returns-clause-one c = one_verdict
