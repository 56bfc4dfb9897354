use Rattle.vic_log.proofs.Weaker.{weaker_given, weaker_listed}
use Rattle.vic_log.proofs.laws.weaker_entries_keep_populations.Goals as goal

pub returns : goal.returns
returns c = record { given = weaker_given; listed = weaker_listed }
