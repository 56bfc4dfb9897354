-- The line of the answer of a collection, and its status (profile).
use Rattle.std.specs.Prelude.{◌≡◌, ℕ, List, [], ◌++◌, codes, decimal, slice_get}
use Rattle.std.specs.Option.{option_map_or}
use Rattle.vic_log.specs.Names.{line_fault_name}
use Rattle.vic_text.specs.Digits.{mask_text, uid_text}
use Rattle.vic_survey.specs.declared.survey.SurveyedField.{SurveyedField}
use Rattle.vic_survey.specs.declared.survey.SurveyedField.TheVariants.{Refused, Impossible, Possible}
use Rattle.vic_collection.specs.Answers.{IsAnswer}
use Rattle.vic_collection.specs.Collections.{CollectionValue}
use Rattle.vic_collection.specs.declared.answer.CollectionAnswer.{CollectionAnswer}
use Rattle.vic_collection.specs.declared.answer.CollectionAnswer.TheVariants as answer
use Rattle.vic_result.specs.NamesAt.{name_at}

-- why a log isn't possible
abbrev pub not_possible_line : List ℕ → SurveyedField → List ℕ
not_possible_line name (Refused n fault) =
    codes "refused at line " ++ decimal n ++ codes " of " ++ name ++ codes ": "
    ++ line_fault_name fault
not_possible_line name (Impossible n) =
    codes "impossible at line " ++ decimal n ++ codes " of " ++ name
not_possible_line name (Possible s) = []

-- the status of a log that isn't possible; no possible one is asked for it, so its 3 means nothing
abbrev pub not_possible_status : SurveyedField → ℕ
not_possible_status (Refused n fault) = 3
not_possible_status (Impossible n) = 2
not_possible_status (Possible s) = 3

-- the line of an answer
abbrev pub answer_line : CollectionValue → CollectionAnswer → List ℕ
answer_line c (answer.NotPossible log) =
    option_map_or (λ s. not_possible_line s.name s.field) (slice_get c.surveys log) []
answer_line c (answer.Absent u) = codes "absent " ++ uid_text u
answer_line c (answer.Unlisted u) = codes "unlisted " ++ uid_text u
answer_line c (answer.Unsettled m) = codes "unsettled " ++ mask_text m
answer_line c (answer.Doubtful u) = codes "doubtful " ++ uid_text u
answer_line c (answer.Misplaced u) = codes "misplaced " ++ uid_text u
answer_line c (answer.Returned u) = codes "returned " ++ uid_text u
answer_line c (answer.NotCounted u) = codes "not counted " ++ uid_text u
answer_line c (answer.WithoutLog place) = codes "no log of " ++ place.now
answer_line c (answer.LeftOver log) = codes "left over " ++ name_at c.surveys log
answer_line c (answer.Complete count) = codes "complete " ++ decimal count

-- its status, which is 0 only of `Complete`
abbrev pub answer_status : CollectionValue → CollectionAnswer → ℕ
answer_status c (answer.NotPossible log) =
    option_map_or (λ s. not_possible_status s.field) (slice_get c.surveys log) 3
answer_status c (answer.Complete count) = 0
answer_status c (answer.Absent u) = 1
answer_status c (answer.Unlisted u) = 1
answer_status c (answer.Unsettled m) = 1
answer_status c (answer.Doubtful u) = 1
answer_status c (answer.Misplaced u) = 1
answer_status c (answer.Returned u) = 1
answer_status c (answer.NotCounted u) = 1
answer_status c (answer.WithoutLog place) = 1
answer_status c (answer.LeftOver log) = 1

-- it is the status of the answer of the collection
abbrev pub IsAnswerStatus : CollectionValue → ℕ → Type 0
IsAnswerStatus c status = (a : CollectionAnswer) × IsAnswer c a × (status ≡ answer_status c a)
