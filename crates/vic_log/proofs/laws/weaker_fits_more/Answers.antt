use Rattle.vic_log.proofs.Weaker.{weaker-iff}
use Rattle.vic_log.proofs.laws.weaker_fits_more.Goals as goal

pub returns : goal.returns
returns c = weaker-iff
