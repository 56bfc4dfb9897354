use Rattle.vic_survey.proofs.ValueWords.{◌∙◌, Some, ap, sym, subst, codes, IsName}
use Rattle.vic_survey.proofs.LineLaws.{name_here, name_not, strip_some}
use Rattle.vic_survey.proofs.steps.read_name.Goals as goal

pub returns-in_default-from_utf8 : goal.returns-in_default-from_utf8
returns-in_default-from_utf8 c =
    let cases = c.in-Some.ensures.cases in
    name_not c.args.line.now c.in-Some.name.now (strip_some (codes "vicinity-survey 1 ") c.args.line.now c.in-Some.name.now cases.0 cases.1) (λ h. c.in_default-from_utf8.ensures.cases.0 h.utf8)

pub returns-in-Some-new : goal.returns-in-Some-new
returns-in-Some-new c =
    let cases = c.in-Some.ensures.cases in
    let named = c.in-Some-new.ensures in
    let bytes = c.in_ok-from_str.ensures.ok ∙ c.in-Ok.ensures.cases.0 in
    name_here c.args.line.now c.in-Some.name.now (strip_some (codes "vicinity-survey 1 ") c.args.line.now c.in-Some.name.now cases.0 cases.1) (subst IsName bytes named.0) ∙ ap Some (sym bytes ∙ sym named.1)

pub returns-in-None : goal.returns-in-None
returns-in-None c =
    let cases = c.in-Some.ensures.cases in
    let bytes = c.in_ok-from_str.ensures.ok ∙ c.in-Ok.ensures.cases.0 in
    name_not c.args.line.now c.in-Some.name.now (strip_some (codes "vicinity-survey 1 ") c.args.line.now c.in-Some.name.now cases.0 cases.1) (λ h. c.in-None.ensures (subst IsName (sym bytes) h))
