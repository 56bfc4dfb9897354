-- Logs that can't be told apart: two of the same name, or two that are found by the same (profile).
use Rattle.std.specs.Prelude.{◌≡◌, ℕ, Bool, true, if◌then◌else◌, is_some, Option, Some, None, List, [], ◌∷◌, option_to_list, slice_get, take}
use Rattle.std.specs.List.{list_any}
use Rattle.std.specs.Str.{bytes_eq}
use Rattle.vic_survey.specs.Surveys.{SurveyValue}
use Rattle.vic_verdict.specs.Verdict.{IsLeast, NoSuch}
use Rattle.vic_collection.specs.Collections.{CollectionValue}
use Rattle.vic_collection.specs.Found.{found_by}
use Rattle.vic_collection.specs.Joins.{place_by_name}

-- ---- by what a log is known

-- the first of some names that leads to a place
abbrev pub first_leading : (List ℕ → Option (List ℕ)) → List (List ℕ) → Option (List ℕ)
first_leading place_of [] = None
first_leading place_of (name ∷ names) =
    if is_some (place_of name) then Some name else first_leading place_of names

-- the name by which a log is found; none where it is of no place
abbrev pub key_of_log : CollectionValue → SurveyValue → Option (List ℕ)
key_of_log c s = first_leading (place_by_name c) (found_by s.name)

-- its name, and that by which it is found
abbrev pub known_by : CollectionValue → SurveyValue → List (List ℕ)
known_by c s = s.name ∷ option_to_list (key_of_log c s)

-- ---- two that are known by the same

-- the name is one of these
abbrev pub is_among : List (List ℕ) → List ℕ → Bool
is_among names name = list_any (λ other. bytes_eq other name) names

-- one of these logs is known by the name
abbrev pub knows_one : CollectionValue → List SurveyValue → List ℕ → Bool
knows_one c surveys name = list_any (λ s. is_among (known_by c s) name) surveys

-- the log at this position is known by what a log before it is known by
pub record IsAlike (c : CollectionValue) (k : ℕ) : Type 0 where
  pub survey : SurveyValue
  pub there : slice_get c.surveys k ≡ Some survey
  pub alike : list_any (knows_one c (take k c.surveys)) (known_by c survey) ≡ true

-- the first such log
abbrev pub IsFirstAlike : CollectionValue → ℕ → Type 0
IsFirstAlike c k = IsLeast (IsAlike c) k

-- there is none
abbrev pub AreUnlike : CollectionValue → Type 0
AreUnlike c = NoSuch (IsAlike c)
