-- The findings of a log, in numbers, in the order of the lines of `report`.
use Rattle.std.specs.Prelude.{◌≡◌, ℕ, List, map}
use Rattle.vic_report.specs.Reports.{IsReport, verdict_of}
use Rattle.vic_report.specs.declared.reporting.LogReport.{LogReport}
use Rattle.vic_answer.specs.Answered.{IsAnswered, answer_of}
use Rattle.vic_answer.specs.declared.answered.Answered.{Answered}
use Rattle.vic_numbers.specs.declared.finding_numbers.VicinityFinding.{VicinityFinding}
use Rattle.vic_answer.specs.declared.findings.Finding.{Finding}
use Rattle.vic_answer.specs.declared.findings.Finding.TheVariants.{Absent, Unlisted, Unsettled, Doubtful, OpenMask, MoreOpenMasks, ConflictLine, SilencedBy}
use Rattle.vic_numbers.specs.declared.numbers.VicinityAnswer.{VicinityAnswer}
use Rattle.vic_numbers.specs.Buffers.{IsReturned}
use Rattle.vic_answer.specs.Findings.{findings_of}
use Rattle.vic_numbers.specs.Numbers.{numbers_of}

-- a finding of a kind, without what goes with some kinds
abbrev pub finding : ℕ → VicinityFinding
finding kind = record {
  kind = kind;
  line = 0;
  mask_len = 0;
  zero = 0;
  mask_value = 0;
  uid = 0;
}

-- a finding in numbers
abbrev pub finding_numbers : Finding → VicinityFinding
finding_numbers (Absent s) = record (finding 2) { line = s.line; uid = s.uid }
finding_numbers (Unlisted s) = record (finding 3) { line = s.line; uid = s.uid }
finding_numbers (Unsettled m) = record (finding 4) { mask_len = m.len; mask_value = m.value }
finding_numbers (Doubtful u) = record (finding 5) { uid = u }
finding_numbers (OpenMask m) = record (finding 8) { mask_len = m.len; mask_value = m.value }
finding_numbers MoreOpenMasks = finding 9
finding_numbers (ConflictLine n) = record (finding 10) { line = n }
finding_numbers (SilencedBy n) = record (finding 11) { line = n }

-- these are the numbers of the answer to a text; the report on it has `count` findings, which are
-- returned in a buffer
pub record AreReportedNumbersFor (text : List ℕ) (numbers : VicinityAnswer) (count : ℕ)
    (room room' : List VicinityFinding) : Type 0 where
  pub reported : Answered LogReport
  pub right : IsAnswered IsReport text reported
  pub numbers_are : numbers ≡ numbers_of (answer_of verdict_of reported)
  pub returned : IsReturned (map finding_numbers (findings_of reported)) room room' count
