-- The parts of the object of a collection, in JSON (profile).
use Rattle.std.specs.Prelude.{◌≡◌, ℕ, Bool, nat_lt, Option, Some, None, List, [], ◌++◌, codes, count_by, decimal, length, map, unwrap_or}
use Rattle.std.specs.List.{AllZip, flat_map}
use Rattle.std.specs.Str.{bytes_eq}
use Rattle.vic_frame.specs.Masks.{BitMask}
use Rattle.vic_log.specs.Lines.{ends_with, lf}
use Rattle.vic_log.specs.Names.{line_fault_name}
use Rattle.vic_report.specs.declared.shown.ShownUid.{ShownUid}
use Rattle.vic_tree.specs.declared.open_masks.OpenMasks.{OpenMasks}
use Rattle.vic_text.specs.Json.{comma_joined, json_bool, json_list, json_mask, json_option, json_string, json_uid}
use Rattle.vic_survey.specs.Surveys.{SurveyValue}
use Rattle.vic_survey.specs.declared.survey.SurveyedField.{SurveyedField}
use Rattle.vic_survey.specs.declared.survey.SurveyedField.TheVariants.{Refused, Impossible, Possible}
use Rattle.vic_survey.specs.declared.survey.FieldFacts.{FieldFacts}
use Rattle.vic_table.specs.Cells.{cells_of}
use Rattle.vic_table.specs.Values.{ItemValue}
use Rattle.vic_collection.specs.Collections.{CollectionValue, certain_logs, undecided_logs}
use Rattle.vic_collection.specs.Answers.{IsAnswer}
use Rattle.vic_collection.specs.Findings.{AreFindings, AreOpenMasksOfSurvey}
use Rattle.vic_collection.specs.Joins.{is_left_over, place_of_log, places_without_log}
use Rattle.vic_collection.specs.declared.answer.CollectionAnswer.{CollectionAnswer}
use Rattle.vic_collection.specs.declared.answer.CollectionAnswer.TheVariants as kind
use Rattle.vic_collection.specs.declared.findings.Findings.{Findings}
use Rattle.vic_collection.specs.declared.unlisted.UnlistedUid.{UnlistedUid}
use Rattle.vic_result.specs.Answered.{answer_line, answer_status}
use Rattle.vic_result.specs.LeastMargin.{least_margin}
use Rattle.vic_result.specs.declared.object.margins.LogMargin.{LogMargin}
use Rattle.vic_collection.specs.States.{state_of}
use Rattle.vic_collection.specs.declared.state.State.{State}
use Rattle.vic_result.specs.StateNames.{all_states, state_name}
use Rattle.vic_result.specs.ResultTable.{logs_by, separator_of}

-- ---- items

-- positions of logs
abbrev pub positions_json : List ℕ → List ℕ
positions_json logs = json_list (map decimal logs)

-- the cells of a line under a separator
abbrev pub cells_json : ℕ → List ℕ → List ℕ
cells_json separator line =
    json_list (map json_string (unwrap_or (cells_of separator line) []))

-- the line of an item, its UID, and its state, of this name
abbrev pub item_head_json : ItemValue → List ℕ → List ℕ
item_head_json item state =
    codes "{\"line\":" ++ decimal item.line
    ++ codes ",\"uid\":" ++ json_option json_uid item.uid
    ++ codes ",\"state\":" ++ json_string state

-- its place, and whether it is away
abbrev pub item_place_json : ItemValue → List ℕ
item_place_json item =
    codes ",\"place\":" ++ json_option json_string item.place
    ++ codes ",\"away\":" ++ json_bool item.away

-- in which logs a UID is certain, and in which others it may be
abbrev pub logs_json : List ℕ → List ℕ → List ℕ
logs_json certain possible =
    codes ",\"certain_in\":" ++ positions_json certain
    ++ codes ",\"possible_in\":" ++ positions_json possible

-- the cells of a row
abbrev pub row_json : ℕ → List ℕ → List ℕ
row_json separator row = codes ",\"cells\":" ++ cells_json separator row ++ codes "}"

abbrev pub item_json : ℕ → ItemValue → List ℕ → List ℕ → List ℕ → List ℕ
item_json separator item state certain possible =
    item_head_json item state ++ item_place_json item ++ logs_json certain possible
    ++ row_json separator item.row

abbrev pub item_of_json : CollectionValue → ItemValue → List ℕ
item_of_json c item = item_json (separator_of c) item (state_name (state_of c item))
    (logs_by (certain_logs c) item.uid) (logs_by (undecided_logs c) item.uid)

-- a UID of no item, with a line of the first log in which it is certain
abbrev pub unlisted_uid_json : CollectionValue → ℕ → ℕ → List ℕ
unlisted_uid_json c u line =
    codes "{\"uid\":" ++ json_uid u ++ logs_json (certain_logs c u) (undecided_logs c u)
    ++ codes ",\"line\":" ++ decimal line ++ codes "}"

-- ---- how many items are in each state, and how many UIDs are unlisted

-- how many of some states have a name
abbrev pub count_named : List State → List ℕ → ℕ
count_named states name = count_by (λ state. bytes_eq (state_name state) name) states

abbrev pub count_json : List State → List ℕ → List ℕ
count_json states name =
    codes "\"" ++ name ++ codes "\":" ++ decimal (count_named states name) ++ codes ","

abbrev pub counts_json : List State → ℕ → List ℕ
counts_json states unlisted =
    codes "{" ++ flat_map (λ kind. count_json states (state_name kind)) all_states
    ++ codes "\"unexpected\":" ++ decimal unlisted ++ codes "}"

-- ---- logs

-- what a log says of its field, in a line
abbrev pub field_line : SurveyedField → List ℕ
field_line (Refused n fault) =
    codes "refused at line " ++ decimal n ++ codes ": " ++ line_fault_name fault
field_line (Impossible n) = codes "impossible at line " ++ decimal n
field_line (Possible s) = codes "possible"

-- the UID is certain in more logs than one
abbrev pub is_shared : CollectionValue → ℕ → Bool
is_shared c u = nat_lt 1 (length (certain_logs c u))

-- how many of a log's certain UIDs are
abbrev pub shared_count : CollectionValue → List ShownUid → ℕ
shared_count c certain = count_by (λ shown. is_shared c shown.uid) certain

-- how many answers a possible log has, how many UIDs are certain, and how many of these in other
-- logs too
abbrev pub seen_counts_json : ℕ → ℕ → ℕ → List ℕ
seen_counts_json answers certain shared =
    codes ",\"answers\":" ++ decimal answers
    ++ codes ",\"certain\":" ++ decimal certain
    ++ codes ",\"shared\":" ++ decimal shared

-- its first open masks, and whether there are more
abbrev pub open_masks_json : OpenMasks → List ℕ
open_masks_json o =
    codes ",\"open\":" ++ json_list (map json_mask o.masks.items)
    ++ codes ",\"more\":" ++ json_bool o.more

-- its margin, its weakest mask, and what its hidden and its deaf reading open
abbrev pub seen_reach_json : FieldFacts → List ℕ
seen_reach_json s =
    codes ",\"margin\":" ++ decimal s.margin
    ++ codes ",\"weakest\":" ++ json_mask s.weakest
    ++ codes ",\"hidden\":" ++ json_option json_mask s.hidden
    ++ codes ",\"deaf\":" ++ json_option json_mask s.deaf

-- what a log says, with its first open masks
abbrev pub field_json : CollectionValue → OpenMasks → SurveyedField → List ℕ
field_json c o (Refused n fault) = []
field_json c o (Impossible n) = []
field_json c o (Possible s) =
    seen_counts_json s.answers (length s.certain) (shared_count c s.certain)
    ++ open_masks_json o ++ seen_reach_json s

-- the name of a log, its place, whether it is left over, and what it says of its field
abbrev pub log_head_json : List ℕ → Option (List ℕ) → Bool → List ℕ → List ℕ
log_head_json name place left_over field =
    codes "{\"name\":" ++ json_string name
    ++ codes ",\"place\":" ++ json_option json_string place
    ++ codes ",\"left_over\":" ++ json_bool left_over
    ++ codes ",\"field\":" ++ json_string field

abbrev pub log_json : CollectionValue → OpenMasks → SurveyValue → List ℕ
log_json c o s =
    log_head_json s.name (place_of_log c s) (is_left_over c s) (field_line s.field)
    ++ field_json c o s.field ++ codes "}"

-- the text is the object of the log, with the first masks that the log leaves open
abbrev pub IsLogText : CollectionValue → SurveyValue → List ℕ → Type 0
IsLogText c s text = (o : OpenMasks) × AreOpenMasksOfSurvey c s o × (text ≡ log_json c o s)

-- ---- the members of the object

abbrev pub answer_json : ℕ → List ℕ → List ℕ
answer_json status line =
    codes "{\"schema\":2,\"status\":" ++ decimal status
    ++ codes ",\"answer\":" ++ json_string line

-- a margin, its weakest mask, and the log that has it
abbrev pub margin_json : ℕ → BitMask → ℕ → List ℕ
margin_json margin weakest log =
    codes ",\"margin\":{\"margin\":" ++ decimal margin
    ++ codes ",\"weakest\":" ++ json_mask weakest
    ++ codes ",\"log\":" ++ decimal log ++ codes "}"

-- how many items are in each state, the columns, and whether the catalogue ends by LF
abbrev pub catalogue_json : CollectionValue → ℕ → List ℕ
catalogue_json c unlisted =
    codes ",\"counts\":" ++ counts_json (map (state_of c) c.catalogue.items) unlisted
    ++ codes ",\"columns\":" ++ cells_json (separator_of c) c.catalogue.head
    ++ codes ",\"ended\":" ++ json_bool (ends_with lf c.catalogue.text)

abbrev pub items_json : CollectionValue → List ℕ
items_json c =
    codes ",\"items\":[" ++ comma_joined (map (item_of_json c) c.catalogue.items) ++ codes "]"

-- what is left to do: the mask that is unsettled, and the places without a log
abbrev pub lacking_json : Option BitMask → List (List ℕ) → List ℕ
lacking_json unsettled places =
    codes ",\"unsettled\":" ++ json_option json_mask unsettled
    ++ codes ",\"without_log\":" ++ json_list (map json_string places)

-- logs, of which these are the texts
abbrev pub logs_list_json : List (List ℕ) → List ℕ
logs_list_json texts = codes ",\"logs\":[" ++ comma_joined texts ++ codes "]}"

-- ---- the object

-- the least margin of the logs, if the collection is complete and has logs
abbrev pub margin_found : Option LogMargin → List ℕ
margin_found None = []
margin_found (Some m) = margin_json m.margin m.weakest m.log

abbrev pub margin_member : CollectionValue → CollectionAnswer → List ℕ
margin_member c (kind.Complete count) = margin_found (least_margin 0 c.surveys)
margin_member c (kind.NotPossible log) = []
margin_member c (kind.Absent u) = []
margin_member c (kind.Unlisted u) = []
margin_member c (kind.Unsettled m) = []
margin_member c (kind.Doubtful u) = []
margin_member c (kind.Misplaced u) = []
margin_member c (kind.Returned u) = []
margin_member c (kind.NotCounted u) = []
margin_member c (kind.WithoutLog place) = []
margin_member c (kind.LeftOver log) = []

abbrev pub unlisted_json : CollectionValue → UnlistedUid → List ℕ
unlisted_json c x = unlisted_uid_json c x.uid x.line

abbrev pub unlisted_list_json : CollectionValue → List UnlistedUid → List ℕ
unlisted_list_json c unlisted =
    codes ",\"unexpected\":[" ++ comma_joined (map (unlisted_json c) unlisted) ++ codes "]"

-- the text of the object, by the findings, the answer, and the texts of the logs
abbrev pub object_json : CollectionValue → Findings → CollectionAnswer → List (List ℕ) → List ℕ
object_json c f a logs =
    answer_json (answer_status c a) (answer_line c a) ++ margin_member c a
    ++ catalogue_json c (length f.unlisted.items) ++ items_json c
    ++ unlisted_list_json c f.unlisted.items
    ++ lacking_json f.unsettled (places_without_log c) ++ logs_list_json logs

-- a text is the object of the collection
pub record IsCollectionObject (c : CollectionValue) (text : List ℕ) : Type 0 where
  pub findings : Findings
  pub are_findings : AreFindings c findings
  pub answer : CollectionAnswer
  pub is_answer : IsAnswer c answer
  pub logs : List (List ℕ)
  pub are_logs : AllZip (IsLogText c) c.surveys logs
  pub text_is : text ≡ object_json c findings answer logs
