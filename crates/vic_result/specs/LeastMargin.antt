-- The least margin of the logs of a collection, and the first log that has it (profile).
use Rattle.std.specs.Prelude.{ℕ, ◌+◌, nat_le, if◌then◌else◌, Option, Some, None, List, [], ◌∷◌}
use Rattle.vic_survey.specs.Surveys.{SurveyValue}
use Rattle.vic_survey.specs.declared.survey.SurveyedField.{SurveyedField}
use Rattle.vic_survey.specs.declared.survey.SurveyedField.TheVariants.{Refused, Impossible, Possible}
use Rattle.vic_result.specs.declared.object.margins.LogMargin.{LogMargin}

-- the margin of a log, at a position
abbrev pub margin_of : ℕ → SurveyedField → Option LogMargin
margin_of k (Possible s) = Some (record { margin = s.margin; weakest = s.weakest; log = k })
margin_of k (Refused n fault) = None
margin_of k (Impossible n) = None

-- the lesser of two, the first if they are the same
abbrev pub lesser : Option LogMargin → Option LogMargin → Option LogMargin
lesser None other = other
lesser (Some first) None = Some first
lesser (Some first) (Some other) =
    if nat_le first.margin other.margin then Some first else Some other

-- the least margin of the logs from position k on
abbrev pub least_margin : ℕ → List SurveyValue → Option LogMargin
least_margin k [] = None
least_margin k (s ∷ surveys) = lesser (margin_of k s.field) (least_margin (k + 1) surveys)
