use Rattle.vic_report.proofs.Conflicts.{stays_unfit}
use Rattle.vic_report.proofs.laws.conflict_stays.Goals as goal

pub returns : goal.returns
returns c = stays_unfit
