-- The first logs that leave UIDs open.
use Rattle.std.specs.Prelude.{◌≡◌, ℕ, suc, Bool, true, if◌then◌else◌, List, [], ◌∷◌}
use Rattle.std.specs.BTreeMap.{BTreeMap, get}
use Rattle.std.specs.List.{list_any}
use Rattle.std.specs.Option.{option_map_or}
use Rattle.std.specs.Ordering.{nat_cmp}
use Rattle.vic_frame.specs.Masks.{lies_in}
use Rattle.vic_frame.specs.Uids.{IsUid, has}
use Rattle.vic_survey.specs.Surveys.{SurveyValue}
use Rattle.vic_survey.specs.declared.survey.SurveyedField.{SurveyedField}
use Rattle.vic_survey.specs.declared.survey.SurveyedField.TheVariants.{Refused, Impossible, Possible}
use Rattle.vic_collection.specs.Collections.{CollectionValue}
use Rattle.vic_collection.specs.declared.found_items.FoundItem.{FoundItem}
use Rattle.vic_result.specs.NamesAt.{name_at}
use Rattle.vic_result.specs.ResultLines.{first_possible}

-- the UID lies in an open mask, or the log tells nothing
abbrev pub leaves_open_by : SurveyedField → ℕ → Bool
leaves_open_by (Possible s) u = list_any (λ m. lies_in m u) s.«open»
leaves_open_by (Refused n fault) u = true
leaves_open_by (Impossible n) u = true

abbrev pub leaves_open : SurveyValue → ℕ → Bool
leaves_open s u = leaves_open_by s.field u

abbrev pub is_open_somewhere : List SurveyValue → ℕ → Bool
is_open_somewhere surveys u = list_any (λ s. leaves_open s u) surveys

-- each of the UIDs is left open by some log
abbrev pub AreLeftOpen : List SurveyValue → List ℕ → Type 0
AreLeftOpen surveys us = (u : ℕ) → IsUid u → has us u ≡ true → is_open_somewhere surveys u ≡ true

-- the position of the first log that leaves a UID open
abbrev pub first_open : List SurveyValue → ℕ → ℕ
first_open [] u = 0
first_open (s ∷ surveys) u = if leaves_open s u then 0 else suc (first_open surveys u)

-- the name of the log that a map has for a UID
abbrev pub name_in : List SurveyValue → BTreeMap ℕ ℕ → ℕ → List ℕ
name_in surveys logs u = option_map_or (name_at surveys) (get nat_cmp logs u) []

-- a map has the first log in which an item may be
abbrev pub HasFirstName : CollectionValue → BTreeMap ℕ ℕ → FoundItem → Type 0
HasFirstName c logs found =
    IsUid found.uid → name_in c.surveys logs found.uid ≡ first_possible c found.uid
