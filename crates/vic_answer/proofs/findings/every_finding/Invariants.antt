use Rattle.vic_answer.proofs.Words.{◌≡◌, ◌++◌, findings_left, report_findings}
use Rattle.vic_answer.proofs.findings.every_finding.Given as goal

-- what is listed and what is left are all
abbrev pub invariant-loop-finding : goal.invariant-loop-finding
invariant-loop-finding l = l.list.items ++ findings_left l.finding-iterator ≡ report_findings l.report
