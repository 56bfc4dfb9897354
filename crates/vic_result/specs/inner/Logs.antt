-- Texts behind which logs were written.
use Rattle.std.specs.Prelude.{◌≡◌, ℕ, List, ◌++◌}
use Rattle.std.specs.List.{AllZip}
use Rattle.vic_survey.specs.Surveys.{SurveyValue}
use Rattle.vic_text.specs.Json.{comma_joined}
use Rattle.vic_collection.specs.Collections.{CollectionValue}
use Rattle.vic_result.specs.ResultObject.{IsLogText}

-- a log was written
abbrev pub AddsLog : CollectionValue → List ℕ → List ℕ → SurveyValue → Type 0
AddsLog c old new s = (piece : List ℕ) × IsLogText c s piece × (new ≡ old ++ piece)

-- some logs were, with a comma between any two
abbrev pub AddsLogs : CollectionValue → List ℕ → List ℕ → List SurveyValue → Type 0
AddsLogs c old new surveys =
    (pieces : List (List ℕ)) × AllZip (IsLogText c) surveys pieces
    × (new ≡ old ++ comma_joined pieces)
