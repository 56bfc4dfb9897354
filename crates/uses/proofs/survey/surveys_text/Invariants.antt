use Rattle.std.proofs.Common.{◌≡◌, ◌++◌, drop}
use Rattle.std.specs.List.{flat_map}
use Rattle.vic_log.specs.Writing.{joined}
use Rattle.vic_survey.specs.SurveyText.{survey_lines, text_of}
use Rattle.uses.proofs.survey.surveys_text.Given as goal

abbrev pub invariant-loop-survey : goal.invariant-loop-survey
invariant-loop-survey l = l.text.items ++ joined (flat_map survey_lines (drop l.survey-index l.surveys)) ≡ text_of l.surveys
