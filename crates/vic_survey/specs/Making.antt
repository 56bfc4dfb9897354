-- What a log says of its field: the survey of its text.
use Rattle.std.specs.Prelude.{◌≡◌, ◌↔◌, ℕ, Bool, true, List}
use Rattle.std.specs.List.{All}
use Rattle.vic_frame.specs.Masks.{BitMask, lies_in}
use Rattle.vic_frame.specs.Uids.{IsUid}
use Rattle.vic_log.specs.Deaf.{answers, deaf_entries, hidden_entries}
use Rattle.vic_log.specs.Lines.{lines_of_text}
use Rattle.vic_log.specs.Log.{LogValue}
use Rattle.vic_log.specs.Names.{line_fault_name}
use Rattle.vic_log.specs.Order.{entries}
use Rattle.vic_log.specs.Text.{IsFirstFault, IsLogOf}
use Rattle.vic_log.specs.declared.entry.Entry.{Entry}
use Rattle.vic_log.specs.declared.entry.LogLine.{LogLine}
use Rattle.vic_log.specs.declared.fault.LineFault.{LineFault}
use Rattle.vic_tree.specs.OpenMasks.{AreAll, IsOpenMask}
use Rattle.vic_verdict.specs.Possible.{IsCertainUid, IsPossible, IsPossibleUid}
use Rattle.vic_verdict.specs.Rising.{IsListOf}
use Rattle.vic_verdict.specs.Verdict.{IsVerdict}
use Rattle.vic_verdict.specs.declared.judging.Verdict.TheVariants as verdict
use Rattle.vic_report.specs.Findings.{IsShownCertain, uids_of}
use Rattle.vic_margin.specs.Margins.{IsWeakestBesides}
use Rattle.vic_margin.specs.Readings.{IsFirstOpened}
use Rattle.vic_margin.specs.declared.answer.Weakest.{Weakest}
use Rattle.vic_survey.specs.declared.survey.SurveyedField.{SurveyedField}
use Rattle.vic_survey.specs.declared.survey.SurveyedField.TheVariants.{Refused, Impossible, Possible}
use Rattle.vic_survey.specs.declared.survey.FieldFacts.{FieldFacts}

-- not every UID of the mask is certain
abbrev pub HasUncertain : List Entry → BitMask → Type 0
HasUncertain es m = (u : ℕ) × IsUid u × (lies_in m u ≡ true) × (IsCertainUid es u → ⊥)

-- the open masks of the UIDs that are possible, without those all of whose UIDs are certain
pub record AreOpenMasksOf (es : List Entry) (ms : List BitMask) : Type 0 where
  pub set : ℕ → Bool
  pub uids : (u : ℕ) → IsUid u → (set u ≡ true) ↔ IsPossibleUid es u
  pub all : AreAll (λ m. IsOpenMask set m × HasUncertain es m) ms

-- the margin and its mask, as the margin of a log is given
abbrev pub weakest_of : FieldFacts → Weakest
weakest_of s = record { margin = s.margin; mask = s.weakest }

-- what a possible log says, whatever it lists
pub record AreFieldFactsOf (lines : List LogLine) (s : FieldFacts) : Type 0 where
  pub possible : IsPossible (entries lines)
  pub answers_are : s.answers ≡ answers (entries lines)
  pub certain : IsListOf (IsCertainUid (entries lines)) (uids_of s.certain)
  pub shown : All (IsShownCertain lines) s.certain
  pub masks : AreOpenMasksOf (entries lines) s.«open»
  pub weakest : IsWeakestBesides (entries lines) (uids_of s.certain) (weakest_of s)
  pub hidden : IsFirstOpened (hidden_entries (entries lines)) (entries lines) s.hidden
  pub deaf : IsFirstOpened (deaf_entries (entries lines)) (entries lines) s.deaf

-- what the text of a log says: its first fault, by its name; the first line that no population
-- could have produced; or what its log says
abbrev pub IsFieldOf : List ℕ → SurveyedField → Type 0
IsFieldOf text (Refused n fault) =
    (f : LineFault) × IsFirstFault (lines_of_text text) n f
    × (line_fault_name f ≡ line_fault_name fault)
IsFieldOf text (Impossible n) =
    (log : LogValue) × IsLogOf (lines_of_text text) log
    × IsVerdict log.lines (verdict.Impossible n)
IsFieldOf text (Possible s) =
    (log : LogValue) × IsLogOf (lines_of_text text) log × AreFieldFactsOf log.lines s
