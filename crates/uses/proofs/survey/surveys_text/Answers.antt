use Rattle.std.proofs.Common.{◌∙◌, ◌+◌, ap, sym, arith, drop, ◌++◌}
use Rattle.std.specs.List.{flat_map}
use Rattle.vic_log.specs.Writing.{joined}
use Rattle.vic_survey.specs.SurveyText.{survey_lines}
use Rattle.vic_survey.proofs.Joined.{lines_next, no_more_left}
use Rattle.uses.proofs.survey.surveys_text.Goals as goal

pub loop-survey-preserved : goal.loop-survey-preserved
loop-survey-preserved c =
    let next = lines_next survey_lines c.loop-survey.text.items c.args.surveys.now c.loop-survey.survey-index c.survey-item.result c.loop-survey-test.true c.survey-item.is in
    ap (λ t. t ++ joined (flat_map survey_lines (drop (c.loop-survey.survey-index + 1) c.args.surveys.now))) c.in_ok-push_survey.ensures ∙ next ∙ c.loop-survey.invariant

pub returns : goal.returns
returns c = sym (no_more_left survey_lines c.loop-survey.text.items c.args.surveys.now c.loop-survey.survey-index (omega arith)) ∙ c.loop-survey.invariant
