use Rattle.vic_margin.proofs.Differing.{weaker_margin}
use Rattle.vic_margin.proofs.LawLemmas.{weaker_least}
use Rattle.vic_margin.proofs.laws.weaker_has_no_greater_margin.Goals as goal

pub returns-clause-uid : goal.returns-clause-uid
returns-clause-uid c = weaker_margin

pub returns-clause-log : goal.returns-clause-log
returns-clause-log c = weaker_least
