use Rattle.vic_margin.proofs.LawLemmas.{margin_none}
use Rattle.vic_margin.proofs.laws.no_margin_if_another_is_possible.Goals as goal

pub returns : goal.returns
returns c = margin_none
