-- What `explain` writes for a text: the line of `check`, and then a population that shows the
-- verdict, if one can.
use Rattle.std.specs.Prelude.{ℕ, Option, Some, None, List, [], ◌++◌, length, codes, decimal}
use Rattle.std.specs.Option.{option_map, unwrap_or}
use Rattle.vic_log.specs.Writing.{listed_text}
use Rattle.vic_verdict.specs.Explained.{IsExplanation}
use Rattle.vic_verdict.specs.declared.explanation.Explanation.{Explanation}
use Rattle.vic_answer.specs.Answered.{answer_of}
use Rattle.vic_answer.specs.CheckText.{IsCommandText, check_text}
use Rattle.vic_answer.specs.declared.answered.Answered.{Answered}
use Rattle.vic_answer.specs.declared.answered.Answered.TheVariants.{Found, RefusedAt}
use Rattle.vic_answer.specs.Runs.{ForText}

-- the population of an answer, if it has one
abbrev pub population_of : Answered Explanation → Option (List ℕ)
population_of (Found x) = option_map (λ v. v.items) x.population
population_of (RefusedAt n fault) = None

-- the UIDs of this population, none if there is none
abbrev pub uids_of : Answered Explanation → List ℕ
uids_of explained = unwrap_or (population_of explained) []

-- the line that says how many UIDs a population has
abbrev pub population_line : ℕ → List ℕ
population_line count = codes "population " ++ decimal count ++ codes "\n"

-- the lines of a population: how many UIDs it has, and then each on a line, as a log lists it
abbrev pub population_text : Option (List ℕ) → List ℕ
population_text None = []
population_text (Some us) = population_line (length us) ++ listed_text us

-- what `explain` writes for what it found, or for a fault of the text
abbrev pub explained_text : Answered Explanation → List ℕ
explained_text explained =
    check_text (answer_of (λ x. x.verdict) explained) ++ population_text (population_of explained)

-- what `explain` writes for a text, and its status
abbrev pub IsExplanationOf : ForText
IsExplanationOf = IsCommandText IsExplanation (λ x. x.verdict) explained_text
