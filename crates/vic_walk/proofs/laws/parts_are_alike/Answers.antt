use Rattle.vic_walk.proofs.Alike.{parts_alike}
use Rattle.vic_walk.proofs.laws.parts_are_alike.Goals as goal

pub returns : goal.returns
returns c = parts_alike
