-- A collection: what should be there, which log is of which place, and what the logs say of their
-- fields (profile).
use Rattle.std.specs.Prelude.{ℕ, ◌+◌, Bool, true, false, ◌&&◌, ◌||◌, not, nat_eq, if◌then◌else◌, is_some, map, Option, Some, None, List, [], ◌∷◌}
use Rattle.std.specs.List.{filter, list_any}
use Rattle.vic_frame.specs.Masks.{lies_in}
use Rattle.vic_frame.specs.Uids.{has}
use Rattle.vic_report.specs.Findings.{uids_of}
use Rattle.vic_survey.specs.Surveys.{SurveyValue}
use Rattle.vic_survey.specs.declared.survey.SurveyedField.{SurveyedField}
use Rattle.vic_survey.specs.declared.survey.SurveyedField.TheVariants.{Refused, Impossible, Possible}
use Rattle.vic_table.specs.Values.{CatalogueValue, PlaceRowValue}
use Rattle.vic_collection.specs.declared.logs_by_uid.LogOfUid.{LogOfUid}

-- a catalogue, the rows of a table of places if there is one, and a survey of each log
pub record CollectionValue : Type 0 where
  pub catalogue : CatalogueValue
  pub rows : Option (List PlaceRowValue)
  pub surveys : List SurveyValue

-- places are asked for where the catalogue has a column of them
abbrev pub asks_for_places : CollectionValue → Bool
asks_for_places c = is_some c.catalogue.columns.place

-- ---- what a log says of a UID

-- a tag with the UID was in the field
abbrev pub is_certain_by : SurveyedField → ℕ → Bool
is_certain_by (Possible s) u = has (uids_of s.certain) u
is_certain_by (Refused n fault) u = false
is_certain_by (Impossible n) u = false

-- one may have been. Where a log tells nothing of its field, any may have been
abbrev pub is_possible_by : SurveyedField → ℕ → Bool
is_possible_by (Possible s) u =
    has (uids_of s.certain) u || list_any (λ m. lies_in m u) s.«open»
is_possible_by (Refused n fault) u = true
is_possible_by (Impossible n) u = true

abbrev pub is_certain_in : SurveyValue → ℕ → Bool
is_certain_in s u = is_certain_by s.field u

abbrev pub is_possible_in : SurveyValue → ℕ → Bool
is_possible_in s u = is_possible_by s.field u

abbrev pub is_not_possible : SurveyedField → Bool
is_not_possible (Possible s) = false
is_not_possible (Refused n fault) = true
is_not_possible (Impossible n) = true

-- the log tells nothing of its field: it is refused or impossible
abbrev pub tells_nothing : SurveyValue → Bool
tells_nothing s = is_not_possible s.field

-- ---- what all logs say of it together

-- the positions of what passes a test, where the first one is at position k
abbrev pub positions_from : {X : Type 0} → (X → Bool) → ℕ → List X → List ℕ
positions_from test k [] = []
positions_from test k (x ∷ xs) =
    if test x then k ∷ positions_from test (k + 1) xs else positions_from test (k + 1) xs

-- the logs in which a UID is certain, by their positions
abbrev pub certain_logs : CollectionValue → ℕ → List ℕ
certain_logs c u = positions_from (λ s. is_certain_in s u) 0 c.surveys

-- a tag with the UID may have been in the field or not
abbrev pub is_undecided_in : SurveyValue → ℕ → Bool
is_undecided_in s u = is_possible_in s u && not (is_certain_in s u)

-- the logs in which a UID is possible and not certain
abbrev pub undecided_logs : CollectionValue → ℕ → List ℕ
undecided_logs c u = positions_from (λ s. is_undecided_in s u) 0 c.surveys

-- the logs that some rows have for a UID
abbrev pub logs_in : List LogOfUid → ℕ → List ℕ
logs_in rows u = map (λ row. row.log) (filter (λ row. nat_eq u row.uid) rows)

abbrev pub is_certain_somewhere : CollectionValue → ℕ → Bool
is_certain_somewhere c u = list_any (λ s. is_certain_in s u) c.surveys

abbrev pub is_possible_somewhere : CollectionValue → ℕ → Bool
is_possible_somewhere c u = list_any (λ s. is_possible_in s u) c.surveys

-- ---- what should be there

abbrev pub is_number : ℕ → Option ℕ → Bool
is_number u None = false
is_number u (Some v) = nat_eq u v

-- the UID of an item
abbrev pub is_of_item : CollectionValue → ℕ → Bool
is_of_item c u = list_any (λ item. is_number u item.uid) c.catalogue.items

-- a UID that is certain in some log, and of no item
abbrev pub is_unlisted : CollectionValue → ℕ → Bool
is_unlisted c u = is_certain_somewhere c u && not (is_of_item c u)

-- a UID that is certain in some log, or of an item
abbrev pub is_named : CollectionValue → ℕ → Bool
is_named c u = is_certain_somewhere c u || is_of_item c u
