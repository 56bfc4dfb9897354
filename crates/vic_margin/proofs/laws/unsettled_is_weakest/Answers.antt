use Rattle.vic_margin.proofs.LawLemmas.{unsettled_margin, unsettled_mask}
use Rattle.vic_margin.proofs.laws.unsettled_is_weakest.Goals as goal

pub returns-clause-margin : goal.returns-clause-margin
returns-clause-margin c = unsettled_margin

pub returns-clause-mask : goal.returns-clause-mask
returns-clause-mask c = unsettled_mask
