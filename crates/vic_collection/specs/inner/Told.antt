-- What is kept of what logs say of UIDs.
use Rattle.std.specs.Prelude.{◌≡◌, ℕ, Bool, false, List}
use Rattle.std.specs.List.{list_any}
use Rattle.vic_frame.specs.Masks.{lies_in}
use Rattle.vic_frame.specs.Uids.{IsUid}
use Rattle.vic_tree.specs.Ranges.{is_open_in}
use Rattle.vic_survey.specs.Surveys.{SurveyValue}
use Rattle.vic_survey.specs.declared.survey.SurveyedField.{SurveyedField}
use Rattle.vic_survey.specs.declared.survey.SurveyedField.TheVariants.{Refused, Impossible, Possible}
use Rattle.vic_collection.specs.declared.told.Told.{Told}
use Rattle.vic_collection.specs.Collections.{is_certain_in, logs_in, positions_from, tells_nothing}

-- the UID lies in an open mask
abbrev pub is_open_by : SurveyedField → ℕ → Bool
is_open_by (Possible s) u = list_any (λ m. lies_in m u) s.«open»
is_open_by (Refused n fault) u = false
is_open_by (Impossible n) u = false

-- what is kept is what the surveys say
pub record IsToldBy (surveys : List SurveyValue) (told : Told) : Type 0 where
  pub certain : (u : ℕ)
      → logs_in told.certain u ≡ positions_from (λ s. is_certain_in s u) 0 surveys
  pub open_uids : (u : ℕ) → IsUid u
      → is_open_in told.«open» u ≡ list_any (λ s. is_open_by s.field u) surveys
  pub nothing : told.nothing ≡ list_any tells_nothing surveys
