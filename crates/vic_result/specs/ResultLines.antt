-- The lines of a collection: all its findings, or the line of its answer (profile).
use Rattle.std.specs.Prelude.{◌≡◌, ℕ, Bool, if◌then◌else◌, Option, Some, None, List, [], ◌∷◌, ◌++◌, codes, decimal, slice_get, unwrap_or}
use Rattle.std.specs.List.{AllZip, flat_map}
use Rattle.std.specs.Option.{option_map_or}
use Rattle.vic_frame.specs.Masks.{BitMask}
use Rattle.vic_tree.specs.declared.open_masks.OpenMasks.{OpenMasks}
use Rattle.vic_text.specs.Digits.{mask_text, uid_text}
use Rattle.vic_survey.specs.Surveys.{SurveyValue}
use Rattle.vic_collection.specs.Collections.{CollectionValue, is_certain_in, is_possible_in}
use Rattle.vic_collection.specs.Answers.{IsAnswer}
use Rattle.vic_collection.specs.Findings.{AreFindings, AreOpenMasksOfSurvey}
use Rattle.vic_collection.specs.Joins.{is_left_over, places_without_log}
use Rattle.vic_collection.specs.declared.answer.CollectionAnswer.{CollectionAnswer}
use Rattle.vic_collection.specs.declared.answer.CollectionAnswer.TheVariants as answer
use Rattle.vic_collection.specs.declared.findings.Findings.{Findings}
use Rattle.vic_collection.specs.declared.found_items.FoundItem.{FoundItem}
use Rattle.vic_collection.specs.declared.unlisted.UnlistedUid.{UnlistedUid}
use Rattle.vic_result.specs.Answered.{answer_line}
use Rattle.vic_result.specs.NamesAt.{name_at}
use Rattle.vic_result.specs.ResultTable.{names_where}

-- a line with its end
abbrev pub ended : List ℕ → List ℕ
ended line = line ++ codes "\n"

-- ---- names and places

abbrev pub first_name : List (List ℕ) → List ℕ
first_name [] = []
first_name (name ∷ names) = name

-- the first log in which a UID is certain
abbrev pub first_certain : CollectionValue → ℕ → List ℕ
first_certain c u = first_name (names_where (λ s. is_certain_in s u) c.surveys)

-- the first log in which a UID is possible
abbrev pub first_possible : CollectionValue → ℕ → List ℕ
first_possible c u = first_name (names_where (λ s. is_possible_in s u) c.surveys)

-- the place of the item at a position
abbrev pub place_at : CollectionValue → ℕ → List ℕ
place_at c k = option_map_or (λ item. unwrap_or item.place []) (slice_get c.catalogue.items k) []

-- ---- the lines of each finding

abbrev pub absent_lines : FoundItem → List ℕ
absent_lines x = ended (codes "absent " ++ uid_text x.uid)

-- a UID of no item, and a line that shows it
abbrev pub unlisted_lines : CollectionValue → UnlistedUid → List ℕ
unlisted_lines c x =
    ended (codes "unlisted " ++ uid_text x.uid)
    ++ ended (codes "by line " ++ decimal x.line ++ codes " of " ++ name_at c.surveys x.log)

-- an item that may be somewhere and may be nowhere, and the first log in which it may be
abbrev pub doubtful_lines : CollectionValue → FoundItem → List ℕ
doubtful_lines c x =
    ended (codes "doubtful " ++ uid_text x.uid ++ codes " in " ++ first_possible c x.uid)

-- an item that is elsewhere: where it is, and where it should be
abbrev pub misplaced_lines : CollectionValue → FoundItem → List ℕ
misplaced_lines c x =
    ended (codes "misplaced " ++ uid_text x.uid ++ codes " in " ++ first_certain c x.uid
    ++ codes ", belongs to " ++ place_at c x.item)

-- an item that is back though it should be away
abbrev pub returned_lines : CollectionValue → FoundItem → List ℕ
returned_lines c x =
    ended (codes "returned " ++ uid_text x.uid ++ codes " in " ++ first_certain c x.uid)

-- an item whose place has no log
abbrev pub not_counted_lines : CollectionValue → FoundItem → List ℕ
not_counted_lines c x =
    ended (codes "not counted " ++ uid_text x.uid ++ codes ", belongs to " ++ place_at c x.item)

abbrev pub without_log_lines : List ℕ → List ℕ
without_log_lines place = ended (codes "no log of " ++ place)

abbrev pub left_over_lines : List ℕ → List ℕ
left_over_lines name = ended (codes "left over " ++ name)

-- ---- what is left to ask for

-- an open mask of the log of this name
abbrev pub open_line : List ℕ → BitMask → List ℕ
open_line name m = ended (codes "open " ++ mask_text m ++ codes " in " ++ name)

abbrev pub more_line : List ℕ → Bool → List ℕ
more_line name more = if more then ended (codes "more open in " ++ name) else []

-- its first open masks, and that there are more
abbrev pub open_lines : List ℕ → OpenMasks → List ℕ
open_lines name o = flat_map (open_line name) o.masks.items ++ more_line name o.more

-- those of some logs, in their order
abbrev pub all_open_lines : List SurveyValue → List OpenMasks → List ℕ
all_open_lines [] masks = []
all_open_lines (s ∷ surveys) [] = []
all_open_lines (s ∷ surveys) (o ∷ masks) = open_lines s.name o ++ all_open_lines surveys masks

-- the mask that is unsettled, and the open masks of all logs
abbrev pub unsettled_lines : CollectionValue → BitMask → List OpenMasks → List ℕ
unsettled_lines c m masks =
    ended (codes "unsettled " ++ mask_text m) ++ all_open_lines c.surveys masks

-- a text says what is unsettled: nothing, or this mask
abbrev pub AreUnsettledLines : CollectionValue → Option BitMask → List ℕ → Type 0
AreUnsettledLines c None text = text ≡ []
AreUnsettledLines c (Some m) text =
    (masks : List OpenMasks) × AllZip (AreOpenMasksOfSurvey c) c.surveys masks
    × (text ≡ unsettled_lines c m masks)

-- ---- all lines

-- the findings in their order, each kind whole, with the text of what is unsettled
abbrev pub finding_lines : CollectionValue → Findings → List ℕ → List ℕ
finding_lines c f unsettled =
    flat_map absent_lines f.absent.items
    ++ flat_map (unlisted_lines c) f.unlisted.items
    ++ unsettled
    ++ flat_map (doubtful_lines c) f.doubtful.items
    ++ flat_map (misplaced_lines c) f.misplaced.items
    ++ flat_map (returned_lines c) f.returned.items
    ++ flat_map (not_counted_lines c) f.not_counted.items
    ++ flat_map without_log_lines (places_without_log c)
    ++ flat_map left_over_lines (names_where (is_left_over c) c.surveys)

-- a text is all findings
abbrev pub AreFindingLines : CollectionValue → Findings → List ℕ → Type 0
AreFindingLines c f text =
    (unsettled : List ℕ) × AreUnsettledLines c f.unsettled unsettled
    × (text ≡ finding_lines c f unsettled)

-- a text is the line of the answer where a log isn't possible or nothing is found, and else all
-- findings
abbrev pub AreLinesBy : CollectionValue → Findings → CollectionAnswer → List ℕ → Type 0
AreLinesBy c f (answer.NotPossible log) text = text ≡ ended (answer_line c (answer.NotPossible log))
AreLinesBy c f (answer.Complete count) text = text ≡ ended (answer_line c (answer.Complete count))
AreLinesBy c f a text = AreFindingLines c f text

-- a text is the lines of the collection
pub record AreCollectionLines (c : CollectionValue) (text : List ℕ) : Type 0 where
  pub findings : Findings
  pub are_findings : AreFindings c findings
  pub answer : CollectionAnswer
  pub is_answer : IsAnswer c answer
  pub are_lines : AreLinesBy c findings answer text
