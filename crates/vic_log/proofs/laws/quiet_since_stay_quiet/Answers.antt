use Rattle.vic_log.proofs.Quiet.{quiet-silenced, silenced-quiet}
use Rattle.vic_log.proofs.laws.quiet_since_stay_quiet.Goals as goal

pub returns : goal.returns
returns c = λ es i u. (quiet-silenced es i u, silenced-quiet es i u)
