use Rattle.vic_answer.proofs.Words.{flat_map, report_findings, finding_text}
use Rattle.vic_answer.proofs.Waiting.{Pushes-then, Pushes-longer, Pushes-handed, Pushes-same}
use Rattle.vic_answer.proofs.report_lines.push_report.Goals as goal

pub returns-in_err-push_text : goal.returns-in_err-push_text
returns-in_err-push_text g c =
    let r = c.from_residual.ensures in
    Pushes-longer (flat_map finding_text (report_findings c.args.report.now)) _ r.0 (Pushes-same (Pushes-handed _ r c.in_err-push_text.ensures) c.heading.ensures)

pub returns : goal.returns
returns g c = Pushes-then (Pushes-same c.in_ok-push_text.ensures c.heading.ensures) c.push_findings.ensures
