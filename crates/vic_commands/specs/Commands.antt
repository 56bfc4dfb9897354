-- What the program writes for texts in memory, and their names.
use Rattle.std.specs.Prelude.{◌≡◌, ◌<◌, ℕ, List, [], ◌∷◌, length}
use Rattle.std.specs.List.{All}
use Rattle.std.specs.Str.{IsUtf8}
use Rattle.vic_answer.specs.CheckText.{IsCheckOf}
use Rattle.vic_answer.specs.ExplainText.{IsExplanationOf}
use Rattle.vic_answer.specs.FrameText.{frame_text, frame_status}
use Rattle.vic_answer.specs.MarginText.{IsMarginOf}
use Rattle.vic_answer.specs.ReportText.{IsReportOf}
use Rattle.vic_answer.specs.SimulateText.{IsSimulationOf}
use Rattle.vic_answer.specs.SpellText.{spell_text, spell_status}
use Rattle.vic_answer.specs.declared.status.Status.{Status}
use Rattle.vic_object.specs.Object.{IsJsonOf}
use Rattle.vic_commands.specs.Collected.{IsJsonCollectionRun, IsReconcileRun, IsCollectionRun}
use Rattle.vic_commands.specs.Surveyed.{IsSurveyRun}
use Rattle.vic_commands.specs.declared.commands.Command.{Command}
use Rattle.vic_commands.specs.declared.commands.Command.TheVariants.{Check, Explain, Report, Margin, Simulate, Reconcile, Frame, Spell, Survey, Collection, Json, JsonCollection}
use Rattle.vic_commands.specs.declared.commands.Output.{Output}
use Rattle.vic_commands.specs.declared.commands.Output.TheVariants.{Answer, Usage}

-- ---- what is written, for one text

-- P holds of the only text
abbrev pub OfOnly : (List ℕ → List ℕ → Status → Type 0) → List (List ℕ) → List ℕ → Status → Type 0
OfOnly P (text ∷ []) answer status = P text answer status
OfOnly P [] answer status = ⊥
OfOnly P (text ∷ other ∷ texts) answer status = ⊥

-- what `frame` writes for a word
pub record IsFrameOf (word answer : List ℕ) (status : Status) : Type 0 where
  pub utf8 : IsUtf8 word
  pub text : answer ≡ frame_text word
  pub status_is : status ≡ frame_status word

-- ---- for several

-- what `spell` writes for words, of which there is at least one
pub record IsSpellingOf (words : List (List ℕ)) (answer : List ℕ) (status : Status) : Type 0 where
  pub some : 0 < length words
  pub utf8 : All IsUtf8 words
  pub text : answer ≡ spell_text words
  pub status_is : status ≡ spell_status words

-- P holds of texts that have a name each
abbrev pub OfNamed : (List (List ℕ) → List (List ℕ) → List ℕ → Status → Type 0)
    → List (List ℕ) → List (List ℕ) → List ℕ → Status → Type 0
OfNamed P names texts answer status =
    (length names ≡ length texts) × P names texts answer status

-- ---- for each command

-- what a command writes for texts with these names, which have to be its operands
abbrev pub Writes : Command → List (List ℕ) → List (List ℕ) → List ℕ → Status → Type 0
Writes Check names texts = OfOnly IsCheckOf texts
Writes Explain names texts = OfOnly IsExplanationOf texts
Writes Report names texts = OfOnly IsReportOf texts
Writes Margin names texts = OfOnly IsMarginOf texts
Writes Simulate names texts = OfOnly IsSimulationOf texts
Writes Reconcile names texts = OfNamed IsReconcileRun names texts
Writes Frame names texts = OfOnly IsFrameOf texts
Writes Spell names texts = IsSpellingOf texts
Writes Survey names texts = OfNamed IsSurveyRun names texts
Writes Collection names texts = OfNamed IsCollectionRun names texts
Writes Json names texts = OfOnly IsJsonOf texts
Writes JsonCollection names texts = OfNamed IsJsonCollectionRun names texts

-- an answer is one that W allows; where there is none, W allows none
abbrev pub IsOutputBy : (List ℕ → Status → Type 0) → Output → Type 0
IsOutputBy W (Answer w) = W w.text.items w.status
IsOutputBy W Usage = (answer : List ℕ) (status : Status) → W answer status → ⊥
