use Rattle.vic_log.proofs.Overlooked.{never_overlooked}
use Rattle.vic_log.proofs.laws.never_overlooked_is_open.Goals as goal

pub returns : goal.returns
returns c = never_overlooked
