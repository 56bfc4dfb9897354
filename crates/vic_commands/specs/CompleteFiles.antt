-- What status 0 of a command about a collection says of its files.
use Rattle.std.specs.Prelude.{◌≡◌, ◌≢◌, ℕ, Bool, true, false, List, [], ◌∷◌, filter, map}
use Rattle.std.specs.List.{All, AllZip, flat_map}
use Rattle.vic_collection.specs.Answers.{IsAnswer}
use Rattle.vic_collection.specs.Collections.{CollectionValue}
use Rattle.vic_collection.specs.Complete.{IsComplete}
use Rattle.vic_collection.specs.declared.answer.CollectionAnswer.TheVariants.{Complete}
use Rattle.vic_operands.specs.Files.{File}
use Rattle.vic_operands.specs.Gathered.{AreTogether}
use Rattle.vic_operands.specs.Kinds.{is_list, kind_behind_list, kind_of}
use Rattle.vic_operands.specs.Lists.{AreListAndLogs}
use Rattle.vic_operands.specs.declared.kind.Kind.{Kind}
use Rattle.vic_operands.specs.declared.kind.Kind.TheVariants.{Surveys, Log, Table}
use Rattle.vic_answer.specs.declared.status.Status.{Status}
use Rattle.vic_commands.specs.Collected.{AreFiles, IsFormOf}
use Rattle.vic_commands.specs.Surveyed.{IsSurveyRun}
use Rattle.vic_commands.specs.declared.collected.Form.{Form}
use Rattle.vic_commands.specs.declared.collected.Form.TheVariants.{Lines}

-- ---- the logs of files, where `kind` tells what a text is

abbrev pub is_log : Kind → Bool
is_log Log = true
is_log Surveys = false
is_log Table = false

-- the texts of the files that are logs
abbrev pub texts_of_logs : (List ℕ → Kind) → List File → List (List ℕ)
texts_of_logs kind files = map (λ f. f.text) (filter (λ f. is_log (kind f.text)) files)

-- none of them is a text of surveys
abbrev pub HaveNoSurveys : (List ℕ → Kind) → List File → Type 0
HaveNoSurveys kind files = All (λ f. kind f.text ≢ Surveys) files

-- the logs of a file: a log is its own; a text of surveys has those for which `survey` writes it
abbrev pub AreLogsBy : Kind → List ℕ → List (List ℕ) → Type 0
AreLogsBy Log text logs = logs ≡ text ∷ []
AreLogsBy Surveys text logs =
    (names : List (List ℕ)) × (status : Status) × IsSurveyRun names logs text status
AreLogsBy Table text logs = logs ≡ []

-- the logs of files, in the order of the files
pub record HaveLogs (kind : List ℕ → Kind) (files : List File) (logs : List (List ℕ))
    : Type 0 where
  pub parts : List (List (List ℕ))
  pub each : AllZip (λ f part. AreLogsBy (kind f.text) f.text part) files parts
  pub joined : logs ≡ flat_map (λ part. part) parts

-- ---- complete files

-- files make a collection, and this is written of it: its answer is `Complete`, and what this
-- promises is true of the logs of the files
pub record AreCompleteBy (Make : List File → CollectionValue → Type 0) (kind : List ℕ → Kind)
    (files : List File) (form : Form) (text : List ℕ) : Type 0 where
  pub collection : CollectionValue
  pub made : Make files collection
  pub written : IsFormOf form collection text
  pub count : ℕ
  pub answer : IsAnswer collection (Complete count)
  pub of_logs : HaveNoSurveys kind files
      → IsComplete collection (texts_of_logs kind files) count
  pub of_surveys : (logs : List (List ℕ)) → HaveLogs kind files logs
      → IsComplete collection logs count

-- the catalogue is read from the one table that is a catalogue
abbrev pub AreComplete : Form → List ℕ → List File → Type 0
AreComplete form text files = AreCompleteBy AreTogether kind_of files form text

-- the catalogue is the list, and the logs are those of the files behind it
abbrev pub AreCompleteBehindList : List ℕ → File → List File → Type 0
AreCompleteBehindList text list files =
    AreCompleteBy (AreListAndLogs list) kind_behind_list files Lines text

-- the operands of `reconcile`, of which the first is a list or not
abbrev pub AreCompleteWith : Bool → List ℕ → File → List File → Type 0
AreCompleteWith true text first files = AreCompleteBehindList text first files
AreCompleteWith false text first files = AreComplete Lines text (first ∷ files)

abbrev pub AreCompleteToReconcile : List ℕ → List File → Type 0
AreCompleteToReconcile text [] = AreComplete Lines text []
AreCompleteToReconcile text (first ∷ files) =
    AreCompleteWith (is_list first.text) text first files

-- ---- for texts with names

-- this holds of the files with these names and texts
abbrev pub OfFiles : (List File → Type 0) → List (List ℕ) → List (List ℕ) → Type 0
OfFiles Holds names texts = (files : List File) × AreFiles names texts files × Holds files
