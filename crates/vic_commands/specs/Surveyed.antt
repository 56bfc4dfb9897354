-- What `survey` writes.
use Rattle.std.specs.Prelude.{◌≡◌, ℕ, ◌<◌, Bool, true, false, if◌then◌else◌, List, length, map}
use Rattle.std.specs.List.{All, AllZip, list_any}
use Rattle.vic_survey.specs.Making.{IsFieldOf}
use Rattle.vic_survey.specs.Names.{IsName}
use Rattle.vic_survey.specs.SurveyText.{text_of}
use Rattle.vic_survey.specs.Surveys.{AreSurveys, SurveyValue}
use Rattle.vic_survey.specs.declared.survey.SurveyedField.{SurveyedField}
use Rattle.vic_survey.specs.declared.survey.SurveyedField.TheVariants as field
use Rattle.vic_answer.specs.declared.status.Status.{Status}
use Rattle.vic_answer.specs.declared.status.Status.TheVariants.{Whole, Impossible, Refused}

abbrev pub is_refused : SurveyedField → Bool
is_refused (field.Refused n fault) = true
is_refused (field.Impossible n) = false
is_refused (field.Possible s) = false

abbrev pub is_impossible : SurveyedField → Bool
is_impossible (field.Refused n fault) = false
is_impossible (field.Impossible n) = true
is_impossible (field.Possible s) = false

-- the status of surveys: the highest of theirs
abbrev pub status_of : List SurveyValue → Status
status_of surveys =
    if list_any (λ s. is_refused s.field) surveys then Refused
    else if list_any (λ s. is_impossible s.field) surveys then Impossible
    else Whole

-- these are the surveys of texts, each under its name
pub record AreSurveysOf (names texts : List (List ℕ)) (surveys : List SurveyValue) : Type 0 where
  pub named : map (λ s. s.name) surveys ≡ names
  pub say : AllZip (λ text s. IsFieldOf text s.field) texts surveys

-- this is the text of surveys, all of whose numbers are in their ranges, and their status
pub record AreWrittenAs (surveys : List SurveyValue) (answer : List ℕ) (status : Status)
    : Type 0 where
  pub valid : AreSurveys surveys
  pub text : answer ≡ text_of surveys
  pub status_is : status ≡ status_of surveys

-- the names are names of logs, and this is written for the surveys of texts under them
pub record AreSurveyed (names texts : List (List ℕ)) (answer : List ℕ) (status : Status)
    : Type 0 where
  pub valid : All IsName names
  pub surveys : List SurveyValue
  pub are : AreSurveysOf names texts surveys
  pub written : AreWrittenAs surveys answer status

-- what `survey` writes for texts with these names, of which there is at least one
pub record IsSurveyRun (names texts : List (List ℕ)) (answer : List ℕ) (status : Status)
    : Type 0 where
  pub some : 0 < length texts
  pub surveyed : AreSurveyed names texts answer status
