use Rattle.vic_log.proofs.SecondVersion.{fits-second, order-second, given-second}
use Rattle.vic_log.proofs.laws.second_version_is_kept.Goals as goal

pub returns : goal.returns
returns c = record { fits = fits-second; order = order-second; given = given-second }
