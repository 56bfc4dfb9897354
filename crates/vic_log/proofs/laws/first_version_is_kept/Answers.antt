use Rattle.vic_log.proofs.FirstVersion.{opener-first, quiet-first, fits-first, order-first, given-first}
use Rattle.vic_log.proofs.laws.first_version_is_kept.Goals as goal

pub returns : goal.returns
returns c = record { opener = opener-first; quiet = quiet-first; fits = fits-first; order = order-first; given = given-first }
