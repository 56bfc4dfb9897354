use Rattle.vic_survey.proofs.ValueWords.{◌∙◌, ap, fault_among}
use Rattle.vic_survey.proofs.fault_names.fault_named.Goals as goal

pub returns : goal.returns
returns c = c.first_named.ensures ∙ ap (λ fs. fault_among fs c.args.name.now) c.as_slice.ensures
