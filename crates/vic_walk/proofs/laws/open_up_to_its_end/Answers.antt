use Rattle.vic_walk.proofs.Ending.{open_to_end}
use Rattle.vic_walk.proofs.laws.open_up_to_its_end.Goals as goal

pub returns : goal.returns
returns c = open_to_end
