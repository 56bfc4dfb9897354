use Rattle.vic_survey.proofs.ValueWords.{sym, ap, ◌∙◌, ◌∷◌}
use Rattle.vic_survey.proofs.RunWords.{name_line, lines_before}
use Rattle.vic_survey.proofs.LineLaws.{field_text_of}
use Rattle.vic_survey.proofs.steps.after_name.Goals as goal

pub new-requires : goal.new-requires
new-requires c = (field_text_of c.args.line.now c.in-Some.field (sym c.field_in.ensures ∙ c.in-Some.is)).1

pub returns-in-Some-clause-more : goal.returns-in-Some-clause-more
returns-in-Some-clause-more c = ap lines_before c.new.ensures ∙ ap (λ ls. name_line c.args.name ∷ ls) (sym (field_text_of c.args.line.now c.in-Some.field (sym c.field_in.ensures ∙ c.in-Some.is)).0)
