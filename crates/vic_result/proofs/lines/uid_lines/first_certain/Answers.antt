use Rattle.vic_result.proofs.Words.{◌∙◌, ℕ, List, ap₂}
use Rattle.vic_survey.specs.Surveys.{SurveyValue}
use Rattle.vic_result.specs.NamesAt.{names_at}
use Rattle.vic_result.specs.ResultLines.{first_name}
use Rattle.vic_result.proofs.FindingLines.{first_certain-at}
use Rattle.vic_result.proofs.lines.uid_lines.first_certain.Goals as goal

pub returns : goal.returns
returns c =
    let C = c.args.collection.now in
    c.first_name.ensures ∙ (ap₂ (λ (ss : List SurveyValue) (ls : List ℕ). first_name (names_at ss ls)) c.surveys.ensures c.certain_in.ensures ∙ first_certain-at C c.args.uid)
