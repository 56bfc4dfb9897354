use Rattle.vic_verdict.proofs.Verdicts.{whole_complete}
use Rattle.vic_verdict.proofs.laws.complete_is_whole.Goals as goal

pub returns-clause-exact : goal.returns-clause-exact
returns-clause-exact c = whole_complete
