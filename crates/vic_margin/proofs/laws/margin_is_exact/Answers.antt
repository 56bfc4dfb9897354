use Rattle.vic_margin.proofs.Differing.{margin_exact}
use Rattle.vic_margin.proofs.laws.margin_is_exact.Goals as goal

pub returns : goal.returns
returns c = margin_exact
