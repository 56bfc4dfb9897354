-- What a text is answered by: what was found in its log, or its first fault.
use Rattle.std.specs.Prelude.{ℕ, List}
use Rattle.vic_log.specs.Lines.{lines_of_text}
use Rattle.vic_log.specs.Log.{LogValue}
use Rattle.vic_log.specs.Text.{IsLogOf, IsFirstFault}
use Rattle.vic_log.specs.declared.entry.LogLine.{LogLine}
use Rattle.vic_log.specs.declared.fault.LineFault.{LineFault}
use Rattle.vic_verdict.specs.declared.judging.Verdict.{Verdict}
use Rattle.vic_answer.specs.declared.answered.Answered.{Answered}
use Rattle.vic_answer.specs.declared.answered.Answered.TheVariants.{Found, RefusedAt}

-- the text has this log
abbrev pub HasLog : List ℕ → LogValue → Type 0
HasLog text log = IsLogOf (lines_of_text text) log

-- this is the text's first fault
abbrev pub IsRefusedAt : List ℕ → ℕ → LineFault → Type 0
IsRefusedAt text n fault = IsFirstFault (lines_of_text text) n fault

-- this answers the text: it was found in the log of the text, whose lines P relates to it, or it is
-- the first fault of the text
abbrev pub IsAnswered : {A : Type 0} → (List LogLine → A → Type 0) → List ℕ → Answered A → Type 0
IsAnswered P text (Found found) = (log : LogValue) × HasLog text log × P log.lines found
IsAnswered P text (RefusedAt n fault) = IsRefusedAt text n fault

-- the answer of `check` to the same text, by the verdict in what was found
abbrev pub answer_of : {A : Type 0} → (A → Verdict) → Answered A → Answered Verdict
answer_of verdict_of (Found found) = Found (verdict_of found)
answer_of verdict_of (RefusedAt n fault) = RefusedAt n fault

-- the text was read as this: its log, or its first fault
abbrev pub IsReadAs : List ℕ → Answered LogValue → Type 0
IsReadAs text (Found log) = HasLog text log
IsReadAs text (RefusedAt n fault) = IsRefusedAt text n fault
