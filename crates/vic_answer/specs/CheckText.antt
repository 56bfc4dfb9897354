-- What `check` writes for a text: the line of its verdict, or of its refusal. And what each command
-- that judges a log writes, whose status is that of `check`.
use Rattle.std.specs.Prelude.{◌≡◌, ℕ, List, ◌++◌, length, codes, decimal}
use Rattle.vic_log.specs.Lines.{lines_of_text}
use Rattle.vic_log.specs.Log.{LogValue}
use Rattle.vic_log.specs.Order.{entries, listed}
use Rattle.vic_log.specs.Text.{IsLogOf}
use Rattle.vic_log.specs.declared.entry.LogLine.{LogLine}
use Rattle.vic_verdict.specs.declared.judging.Verdict.{Verdict}
use Rattle.vic_verdict.specs.declared.judging.Verdict.TheVariants.{Impossible, Absent, Unlisted, Unsettled, Doubtful, Complete}
use Rattle.vic_log.specs.SecondVersion.{AreOfSecondVersion}
use Rattle.vic_verdict.specs.Versions.{IsWholeSecond, IsWholeThird}
use Rattle.vic_verdict.specs.Verdict.{IsVerdict, IsWhole}
use Rattle.vic_text.specs.Digits.{mask_text, uid_text}
use Rattle.vic_answer.specs.Refusals.{refusal_line}
use Rattle.vic_answer.specs.declared.status.Status.{Status}
use Rattle.vic_answer.specs.declared.status.Status.TheVariants.{Whole, NotWhole, Refused}
use Rattle.vic_answer.specs.Answered.{IsAnswered, answer_of}
use Rattle.vic_answer.specs.Runs.{ForText}
use Rattle.vic_answer.specs.declared.answered.Answered.{Answered}
use Rattle.vic_answer.specs.declared.answered.Answered.TheVariants.{Found, RefusedAt}

-- ---- the answer

-- the line of a verdict
abbrev pub verdict_line : Verdict → List ℕ
verdict_line (Complete count) = codes "complete " ++ decimal count ++ codes "\n"
verdict_line (Absent u) = codes "absent " ++ uid_text u ++ codes "\n"
verdict_line (Unlisted u) = codes "unlisted " ++ uid_text u ++ codes "\n"
verdict_line (Unsettled m) = codes "unsettled " ++ mask_text m ++ codes "\n"
verdict_line (Doubtful u) = codes "doubtful " ++ uid_text u ++ codes "\n"
verdict_line (Impossible n) = codes "impossible at line " ++ decimal n ++ codes "\n"

-- the status of a verdict
abbrev pub verdict_status : Verdict → Status
verdict_status (Complete count) = Whole
verdict_status (Impossible n) = Status.Impossible
verdict_status (Absent u) = NotWhole
verdict_status (Unlisted u) = NotWhole
verdict_status (Unsettled m) = NotWhole
verdict_status (Doubtful u) = NotWhole

-- what `check` writes for an answer: one line, LF included
abbrev pub check_text : Answered Verdict → List ℕ
check_text (Found v) = verdict_line v
check_text (RefusedAt n fault) = refusal_line n fault

-- the status with which `check` ends for an answer
abbrev pub check_status : Answered Verdict → Status
check_status (Found v) = verdict_status v
check_status (RefusedAt n fault) = Refused

-- ---- what is written

-- what a command that judges a log writes for a text, and its status, which is that of `check`: P
-- relates what it finds to the lines of the log, and `text_of` is how it writes that
pub record IsCommandText {A : Type 0} (P : List LogLine → A → Type 0) (verdict_of : A → Verdict)
    (text_of : Answered A → List ℕ) (text written : List ℕ) (status : Status) : Type 0 where
  pub answered : Answered A
  pub right : IsAnswered P text answered
  pub written_is : written ≡ text_of answered
  pub status_is : status ≡ check_status (answer_of verdict_of answered)

-- what `check` writes for a text, and its status
abbrev pub IsCheckOf : ForText
IsCheckOf = IsCommandText IsVerdict (λ v. v) check_text

-- what begins with the line that `check` writes for the text, and has its status
pub record BeginsAsCheck (text written : List ℕ) (status : Status) : Type 0 where
  pub line : List ℕ
  pub more : List ℕ
  pub right : IsCheckOf text line status
  pub written_is : written ≡ line ++ more

-- ---- a complete list

-- the text has a log whose list is complete, with `count` UIDs: some population could have produced
-- the log, and each that could has exactly the UIDs that it lists; and the same in the words of
-- version 2, if it has no line of version 3, and in those of version 3
pub record HasCompleteList (text : List ℕ) (count : ℕ) : Type 0 where
  pub log : LogValue
  pub is_log : IsLogOf (lines_of_text text) log
  pub whole : IsWhole (entries log.lines)
  pub second : AreOfSecondVersion (entries log.lines) → IsWholeSecond (entries log.lines)
  pub third : IsWholeThird (entries log.lines)
  pub counted : count ≡ length (listed (entries log.lines))
