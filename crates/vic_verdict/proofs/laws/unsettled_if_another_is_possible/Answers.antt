use Rattle.vic_verdict.proofs.Verdicts.{unsettled_iff}
use Rattle.vic_verdict.proofs.laws.unsettled_if_another_is_possible.Goals as goal

pub returns : goal.returns
returns c = unsettled_iff
