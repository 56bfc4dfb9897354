-- What a log says of its field, as a value.
use Rattle.std.specs.Prelude.{◌≢◌, ℕ, ◌≤◌, List, IfSome}
use Rattle.std.specs.List.{All}
use Rattle.vic_frame.specs.declared.fault.FrameFault.TheVariants.{NotVicinity}
use Rattle.vic_log.specs.declared.fault.LineFault.TheVariants.{Frame}
use Rattle.vic_survey.specs.declared.survey.TheConstants.{MAX_COUNT}
use Rattle.vic_survey.specs.declared.survey.SurveyedField.{SurveyedField}
use Rattle.vic_survey.specs.declared.survey.SurveyedField.TheVariants.{Refused, Impossible, Possible}
use Rattle.vic_survey.specs.declared.survey.FieldFacts.{FieldFacts}
use Rattle.vic_survey.specs.Names.{IsName}
use Rattle.vic_survey.specs.Parts.{AreRisingUids, AreRisingMasks, IsLineNumber, IsShort}

-- the name of a log, and what the log says of its field
pub record SurveyValue : Type 0 where
  pub name : List ℕ
  pub field : SurveyedField

-- the numbers of what a possible log says are in their ranges
pub record AreFactsInRange (s : FieldFacts) : Type 0 where
  pub answers : s.answers ≤ MAX_COUNT
  pub certain : AreRisingUids s.certain
  pub masks : AreRisingMasks s.«open»
  pub margin : s.margin ≤ MAX_COUNT
  pub weakest : IsShort s.weakest
  pub hidden : IfSome s.hidden IsShort
  pub deaf : IfSome s.deaf IsShort

-- the same of what a log says. Where a line and a frame have a fault of one name, it is the line's
abbrev pub IsFieldInRange : SurveyedField → Type 0
IsFieldInRange (Refused n fault) = IsLineNumber n × (fault ≢ Frame NotVicinity)
IsFieldInRange (Impossible n) = IsLineNumber n
IsFieldInRange (Possible s) = AreFactsInRange s

-- a name, and what a log says
pub record IsSurvey (s : SurveyValue) : Type 0 where
  pub name : IsName s.name
  pub field : IsFieldInRange s.field

-- surveys
abbrev pub AreSurveys : List SurveyValue → Type 0
AreSurveys ss = All IsSurvey ss
