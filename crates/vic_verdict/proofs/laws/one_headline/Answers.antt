use Rattle.vic_verdict.proofs.Versions.{whole-third, whole_second-third}
use Rattle.vic_verdict.proofs.laws.one_headline.Goals as goal

pub returns-clause-third : goal.returns-clause-third
returns-clause-third c = whole-third

pub returns-clause-second : goal.returns-clause-second
returns-clause-second c = whole_second-third
