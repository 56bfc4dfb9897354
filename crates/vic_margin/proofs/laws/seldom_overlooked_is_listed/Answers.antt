use Rattle.vic_margin.proofs.LawLemmas.{seldom_listed}
use Rattle.vic_margin.proofs.laws.seldom_overlooked_is_listed.Goals as goal

pub returns : goal.returns
returns c = seldom_listed
