use Rattle.vic_verdict.proofs.Possibility.{IsPossible-front}
use Rattle.vic_verdict.proofs.laws.impossible_stays.Goals as goal

pub returns : goal.returns
returns c es more impossible p = impossible (IsPossible-front es more p)
