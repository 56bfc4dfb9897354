use Rattle.vic_margin.proofs.Differing.{no_margin}
use Rattle.vic_margin.proofs.laws.never_overlooked_has_no_margin.Goals as goal

pub returns : goal.returns
returns c = no_margin
