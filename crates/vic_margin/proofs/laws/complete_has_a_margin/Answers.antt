use Rattle.vic_margin.proofs.LawLemmas.{complete_margin}
use Rattle.vic_margin.proofs.laws.complete_has_a_margin.Goals as goal

pub returns : goal.returns
returns c = complete_margin
