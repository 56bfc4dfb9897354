use Rattle.vic_answer.proofs.CheckLines.{explanation_begins, margin_begins, report_begins_as_check}
use Rattle.vic_answer.proofs.laws.answers_begin_as_check.Goals as goal

pub returns : goal.returns
returns c = record { explain = explanation_begins; report = report_begins_as_check; margin = margin_begins }
