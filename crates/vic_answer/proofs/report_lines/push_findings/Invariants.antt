use Rattle.vic_answer.proofs.Words.{◌≡◌, ℕ, List, ◌++◌, Ok, flat_map, Pushes, finding_text, findings_left, report_findings}
use Rattle.vic_answer.proofs.report_lines.push_findings.Given as goal

-- a text was added, and behind it the text of what is left is missing
abbrev pub invariant-loop-finding : goal.invariant-loop-finding
invariant-loop-finding g l =
    (text : List ℕ) × Pushes g.W.Sink l.fn.sink l.sink l.fn.piece.items l.piece.items text (Ok tt)
    × (text ++ flat_map finding_text (findings_left l.finding-iterator) ≡ flat_map finding_text (report_findings l.report))
