use Rattle.vic_margin.proofs.Always.{some_weakest}
use Rattle.vic_margin.proofs.laws.always_a_weakest_mask.Goals as goal

pub returns : goal.returns
returns c = some_weakest
