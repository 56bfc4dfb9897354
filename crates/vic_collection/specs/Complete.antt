-- What `complete N` promises of a collection.
use Rattle.std.specs.Prelude.{◌≡◌, ◌↔◌, ℕ, true, Some, List, slice_get, count_by}
use Rattle.std.specs.List.{All, Contains}
use Rattle.vic_frame.specs.Uids.{has}
use Rattle.vic_log.specs.Lines.{lines_of_text}
use Rattle.vic_log.specs.Log.{LogValue}
use Rattle.vic_log.specs.Order.{entries}
use Rattle.vic_log.specs.Text.{IsLogOf}
use Rattle.vic_verdict.specs.Possible.{IsPossible}
use Rattle.vic_survey.specs.Making.{IsFieldOf}
use Rattle.vic_survey.specs.Surveys.{SurveyValue}
use Rattle.vic_table.specs.Values.{ItemValue}
use Rattle.vic_collection.specs.Collections.{CollectionValue}
use Rattle.vic_collection.specs.Families.{FitsTexts, is_somewhere}
use Rattle.vic_collection.specs.Joins.{is_expected, is_of_place}

-- the UID of an item that should be in a field
pub record IsExpected (c : CollectionValue) (u : ℕ) : Type 0 where
  pub item : ItemValue
  pub there : Contains c.catalogue.items item
  pub uid : item.uid ≡ Some u
  pub expected : is_expected item ≡ true

-- the survey is what the text of a log says of its field
abbrev pub IsSurveyOf : List ℕ → SurveyValue → Type 0
IsSurveyOf text s = IsFieldOf text s.field

-- the text has a log, and it is possible
pub record HasPossibleLog (text : List ℕ) : Type 0 where
  pub log : LogValue
  pub is_log : IsLogOf (lines_of_text text) log
  pub possible : IsPossible (entries log.lines)

-- in a family, a UID is in the population of a log of this place
pub record IsInPlace (c : CollectionValue) (family : List (List ℕ)) (place : List ℕ) (u : ℕ)
    : Type 0 where
  pub position : ℕ
  pub survey : SurveyValue
  pub population : List ℕ
  pub its_log : slice_get c.surveys position ≡ Some survey
  pub its_population : slice_get family position ≡ Some population
  pub of_place : is_of_place c place survey ≡ true
  pub there : has population u ≡ true

-- each log is possible; some family could have produced the logs, and in every one that could have,
-- exactly the expected UIDs are somewhere, so many, and each whose item has a place in the field of
-- a log of that place
pub record IsComplete (c : CollectionValue) (texts : List (List ℕ)) (count : ℕ) : Type 0 where
  pub possible : All HasPossibleLog texts
  pub family : List (List ℕ)
  pub fits : FitsTexts family texts
  pub exact : (family : List (List ℕ)) → FitsTexts family texts → (u : ℕ)
      → (is_somewhere family u ≡ true) ↔ IsExpected c u
  pub in_place : (family : List (List ℕ)) → FitsTexts family texts
      → (item : ItemValue) (place : List ℕ) (u : ℕ) → Contains c.catalogue.items item
      → is_expected item ≡ true → item.place ≡ Some place → item.uid ≡ Some u
      → IsInPlace c family place u
  pub counted : count ≡ count_by is_expected c.catalogue.items
