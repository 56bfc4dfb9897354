-- What the commands about a collection write.
use Rattle.std.specs.Prelude.{◌≡◌, ℕ, List, [], ◌∷◌, ◌++◌, codes, decimal, map, string_bytes}
use Rattle.vic_log.specs.Lines.{lf}
use Rattle.vic_collection.specs.Collections.{CollectionValue}
use Rattle.vic_operands.specs.Faults.{operand_fault_name}
use Rattle.vic_operands.specs.Files.{File}
use Rattle.vic_operands.specs.Gathered.{IsGathered}
use Rattle.vic_operands.specs.Lists.{IsGatheredToReconcile}
use Rattle.vic_operands.specs.declared.fault.Refusal.{Refusal}
use Rattle.vic_operands.specs.declared.gathered.Gathered.{Gathered}
use Rattle.vic_operands.specs.declared.gathered.Gathered.TheVariants as gathered
use Rattle.vic_result.specs.Answered.{IsAnswerStatus}
use Rattle.vic_result.specs.ResultLines.{AreCollectionLines}
use Rattle.vic_result.specs.ResultObject.{IsCollectionObject}
use Rattle.vic_result.specs.ResultTable.{IsCollectionTable}
use Rattle.vic_answer.specs.Status.{status_code}
use Rattle.vic_answer.specs.declared.status.Status.{Status}
use Rattle.vic_answer.specs.declared.status.Status.TheVariants.{Refused}
use Rattle.vic_commands.specs.declared.collected.Form.{Form}
use Rattle.vic_commands.specs.declared.collected.Form.TheVariants as form

-- the line of files that are refused
abbrev pub refusal_line : Refusal → List ℕ
refusal_line r =
    codes "refused at line " ++ decimal r.line ++ codes " of " ++ string_bytes r.name
    ++ codes ": " ++ operand_fault_name r.fault ++ lf ∷ []

-- what a command writes of a collection: its table; its object, which is one line; or lines
abbrev pub IsFormOf : Form → CollectionValue → List ℕ → Type 0
IsFormOf form.Table c text = IsCollectionTable c text
IsFormOf form.Object c text =
    (object : List ℕ) × IsCollectionObject c object × (text ≡ object ++ lf ∷ [])
IsFormOf form.Lines c text = AreCollectionLines c text

-- the status of the answer of a collection
abbrev pub IsStatusOf : CollectionValue → Status → Type 0
IsStatusOf c status = IsAnswerStatus c (status_code status)

-- the files with these names and texts
pub record AreFiles (names texts : List (List ℕ)) (files : List File) : Type 0 where
  pub named : map (λ f. f.name) files ≡ names
  pub have : map (λ f. f.text) files ≡ texts

-- what is written of files by what they are: one line where they are refused
abbrev pub IsWrittenBy : Form → Gathered → List ℕ → Status → Type 0
IsWrittenBy form gathered.Usage text status = ⊥
IsWrittenBy form (gathered.Refused r) text status = (text ≡ refusal_line r) × (status ≡ Refused)
IsWrittenBy form (gathered.Collection c) text status = IsFormOf form c text × IsStatusOf c status

-- what is written of texts with these names, where `Are` says what files are together
pub record IsCollected (Are : List File → Gathered → Type 0) (form : Form)
    (names texts : List (List ℕ)) (text : List ℕ) (status : Status) : Type 0 where
  pub files : List File
  pub are : AreFiles names texts files
  pub gathered : Gathered
  pub right : Are files gathered
  pub written : IsWrittenBy form gathered text status

-- what `collection` writes, `json-collection`, and `reconcile`
abbrev pub IsCollectionRun : List (List ℕ) → List (List ℕ) → List ℕ → Status → Type 0
IsCollectionRun names texts text status = IsCollected IsGathered form.Table names texts text status

abbrev pub IsJsonCollectionRun : List (List ℕ) → List (List ℕ) → List ℕ → Status → Type 0
IsJsonCollectionRun names texts text status =
    IsCollected IsGathered form.Object names texts text status

abbrev pub IsReconcileRun : List (List ℕ) → List (List ℕ) → List ℕ → Status → Type 0
IsReconcileRun names texts text status =
    IsCollected IsGatheredToReconcile form.Lines names texts text status
