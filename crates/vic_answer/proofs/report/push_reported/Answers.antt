use Rattle.vic_answer.proofs.Words.{sym, ap, ◌∙◌, reported_text}
use Rattle.vic_answer.proofs.Waiting.{Pushes-same}
use Rattle.vic_answer.proofs.report.push_reported.Goals as goal

pub returns-in-RefusedAt : goal.returns-in-RefusedAt
returns-in-RefusedAt g c = Pushes-same c.push_text.ensures (c.refusal_line.ensures.items ∙ ap reported_text (sym c.in-RefusedAt.is))
