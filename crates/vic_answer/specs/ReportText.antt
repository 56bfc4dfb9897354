-- What `report` writes for a text: every finding of its log, with its lines, or the line of a
-- refusal.
use Rattle.std.specs.Prelude.{ℕ, List, [], ◌++◌, codes, decimal}
use Rattle.std.specs.List.{flat_map}
use Rattle.vic_report.specs.declared.reporting.LogReport.{LogReport}
use Rattle.vic_report.specs.declared.reporting.LogReport.TheVariants as report
use Rattle.vic_verdict.specs.declared.judging.Verdict.TheVariants as verdict
use Rattle.vic_report.specs.Reports.{IsReport, verdict_of}
use Rattle.vic_answer.specs.CheckText.{IsCommandText, verdict_line}
use Rattle.vic_text.specs.Digits.{mask_text}
use Rattle.vic_answer.specs.Findings.{report_findings}
use Rattle.vic_answer.specs.Refusals.{refusal_line}
use Rattle.vic_answer.specs.declared.answered.Answered.{Answered}
use Rattle.vic_answer.specs.declared.answered.Answered.TheVariants.{Found, RefusedAt}
use Rattle.vic_answer.specs.declared.findings.Finding.{Finding}
use Rattle.vic_answer.specs.declared.findings.Finding.TheVariants.{Absent, Unlisted, Unsettled, Doubtful, OpenMask, MoreOpenMasks, ConflictLine, SilencedBy}
use Rattle.vic_answer.specs.Runs.{ForText}

-- a line of the log that shows a finding, or is one of a conflict
abbrev pub by_line : ℕ → List ℕ
by_line n = codes "by line " ++ decimal n ++ codes "\n"

-- the lines of a finding: that of a verdict, and, where a line of the log shows it, which that is
abbrev pub finding_text : Finding → List ℕ
finding_text (Absent s) = verdict_line (verdict.Absent s.uid) ++ by_line s.line
finding_text (Unlisted s) = verdict_line (verdict.Unlisted s.uid) ++ by_line s.line
finding_text (Unsettled m) = verdict_line (verdict.Unsettled m)
finding_text (Doubtful u) = verdict_line (verdict.Doubtful u)
finding_text (OpenMask m) = codes "open " ++ mask_text m ++ codes "\n"
finding_text MoreOpenMasks = codes "more open\n"
finding_text (ConflictLine n) = by_line n
finding_text (SilencedBy n) = codes "silenced " ++ by_line n

-- what stands before the findings: the verdict, unless it is the first of them
abbrev pub heading : LogReport → List ℕ
heading (report.Impossible c) = verdict_line (verdict.Impossible c.line)
heading (report.NotWhole f) = []
heading (report.Complete count) = verdict_line (verdict.Complete count)

-- all lines of a report
abbrev pub report_text : LogReport → List ℕ
report_text r = heading r ++ flat_map finding_text (report_findings r)

-- what `report` writes for what it found, or for a fault of the text
abbrev pub reported_text : Answered LogReport → List ℕ
reported_text (Found r) = report_text r
reported_text (RefusedAt n fault) = refusal_line n fault

-- what `report` writes for a text, and its status
abbrev pub IsReportOf : ForText
IsReportOf = IsCommandText IsReport verdict_of reported_text
