-- The names of logs by their positions.
use Rattle.std.specs.Prelude.{ℕ, List, [], map, slice_get}
use Rattle.std.specs.Option.{option_map_or}
use Rattle.vic_survey.specs.Surveys.{SurveyValue}

-- the name of the log at this position
abbrev pub name_at : List SurveyValue → ℕ → List ℕ
name_at surveys k = option_map_or (λ s. s.name) (slice_get surveys k) []

abbrev pub names_at : List SurveyValue → List ℕ → List (List ℕ)
names_at surveys logs = map (name_at surveys) logs
