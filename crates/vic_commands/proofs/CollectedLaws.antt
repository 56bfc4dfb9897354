-- What is written of the files of a collection.
use Rattle.std.proofs.Common.{◌≡◌, ◌≤◌, ◌∙◌, ◌++◌, ℕ, List, [], ◌∷◌, Option, Some, None, ap, arith, map, refl, slice_get, subst, sym}
use Rattle.std.specs.Option.{option_map_or}
use Rattle.std.proofs.lemmas.List.{map-append}
use Rattle.vic_answer.specs.declared.status.Status.{Status}
use Rattle.vic_survey.specs.Surveys.{SurveyValue}
use Rattle.vic_survey.specs.declared.survey.SurveyedField.{SurveyedField}
use Rattle.vic_survey.specs.declared.survey.SurveyedField.TheVariants.{Refused, Impossible, Possible}
use Rattle.vic_collection.specs.Collections.{CollectionValue}
use Rattle.vic_collection.specs.declared.answer.CollectionAnswer.{CollectionAnswer}
use Rattle.vic_collection.specs.declared.answer.CollectionAnswer.TheVariants as answer
use Rattle.vic_result.specs.Answered.{IsAnswerStatus, answer_status, not_possible_status}
use Rattle.vic_operands.specs.Files.{File}
use Rattle.vic_operands.specs.declared.gathered.Gathered.{Gathered}
use Rattle.vic_operands.specs.declared.gathered.Gathered.TheVariants as gathered
use Rattle.vic_commands.specs.Collected.{AreFiles, IsCollected, IsWrittenBy}
use Rattle.vic_commands.specs.Commands.{IsOutputBy}
use Rattle.vic_commands.specs.declared.collected.Form.{Form}
use Rattle.vic_commands.specs.declared.commands.Output.{Output}
use Rattle.vic_commands.specs.declared.commands.Output.TheVariants.{Answer, Usage}
use Rattle.vic_commands.specs.inner.Output.{IsOutputOf}

-- names and texts are those of one list of files
same_file : (f g : File) → f.name ≡ g.name → f.text ≡ g.text → f ≡ g
same_file f g name text =
    let named : f ≡ record { name = g.name; text = f.text } = ap (λ (n : List ℕ). (let x : File = record { name = n; text = f.text } in x)) name in
    named ∙ ap (λ (t : List ℕ). (let x : File = record { name = g.name; text = t } in x)) text

same_files : (fs gs : List File) → map (λ (f : File). f.name) fs ≡ map (λ (f : File). f.name) gs → map (λ (f : File). f.text) fs ≡ map (λ (f : File). f.text) gs → fs ≡ gs
same_files [] [] names texts = refl
same_files [] (g ∷ gs) names texts = cc names
same_files (f ∷ fs) [] names texts = cc names
same_files (f ∷ fs) (g ∷ gs) names texts =
    let first : f ≡ g = same_file f g (cc names) (cc texts) in
    let rest : fs ≡ gs = same_files fs gs (cc names) (cc texts) in
    ap (λ x. x ∷ fs) first ∙ ap (λ xs. g ∷ xs) rest

pub more_files : (names texts : List (List ℕ)) (name text : List ℕ) (files : List File) → AreFiles names texts files
    → AreFiles (names ++ name ∷ []) (texts ++ text ∷ []) (files ++ record { name = name; text = text } ∷ [])
more_files names texts name text files h = record {
  named = map-append (λ (f : File). f.name) files (record { name = name; text = text } ∷ []) ∙ ap (λ ns. ns ++ name ∷ []) h.named;
  have = map-append (λ (f : File). f.text) files (record { name = name; text = text } ∷ []) ∙ ap (λ ts. ts ++ text ∷ []) h.have;
}

-- the output for files is what is written of them, and nothing is where they are no operands
module _ (Are : List File → Gathered → Type 0) (alone : (files : List File) (g : Gathered) → Are files gathered.Usage → Are files g → g ≡ gathered.Usage) where
  none_collected : (form : Form) (names texts : List (List ℕ)) (files : List File) → AreFiles names texts files → Are files gathered.Usage
      → (text : List ℕ) (status : Status) → IsCollected Are form names texts text status → ⊥
  none_collected form names texts files are usage text status h =
      let same : h.files ≡ files = same_files h.files files (h.are.named ∙ sym are.named) (h.are.have ∙ sym are.have) in
      let right : Are files h.gathered = subst (λ fs. Are fs h.gathered) same h.right in
      subst (λ g. IsWrittenBy form g text status) (alone files h.gathered usage right) h.written

  pub collected-output : (form : Form) (names texts : List (List ℕ)) (files : List File) (g : Gathered) (output : Output) → AreFiles names texts files → Are files g → IsOutputOf form g output
      → IsOutputBy (IsCollected Are form names texts) output
  collected-output form names texts files g (Answer w) are right h = record { files = files; are = are; gathered = g; right = right; written = h }
  collected-output form names texts files g Usage are right h = λ text status. none_collected form names texts files are (subst (Are files) h right) text status

-- ---- the status of an answer

small_field : (f : SurveyedField) → not_possible_status f ≤ 3
small_field (Refused n fault) = omega arith
small_field (Impossible n) = omega arith
small_field (Possible s) = omega arith

small_at : (o : Option SurveyValue) → option_map_or (λ s. not_possible_status s.field) o 3 ≤ 3
small_at None = omega arith
small_at (Some s) = small_field s.field

small_status : (c : CollectionValue) (a : CollectionAnswer) → answer_status c a ≤ 3
small_status c (answer.NotPossible log) = small_at (slice_get c.surveys log)
small_status c (answer.Absent u) = omega arith
small_status c (answer.Unlisted u) = omega arith
small_status c (answer.Unsettled m) = omega arith
small_status c (answer.Doubtful u) = omega arith
small_status c (answer.Misplaced u) = omega arith
small_status c (answer.Returned u) = omega arith
small_status c (answer.NotCounted u) = omega arith
small_status c (answer.WithoutLog place) = omega arith
small_status c (answer.LeftOver log) = omega arith
small_status c (answer.Complete count) = omega arith

pub small_code : (c : CollectionValue) (code : ℕ) → IsAnswerStatus c code → code ≤ 3
small_code c code h = rw h.2 (small_status c h.0)
