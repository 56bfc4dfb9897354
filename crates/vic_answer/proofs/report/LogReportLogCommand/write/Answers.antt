use Rattle.vic_answer.proofs.Words.{subst, Writes}
use Rattle.vic_answer.proofs.Waiting.{Writes-behind}
use Rattle.vic_answer.proofs.report.LogReportLogCommand.write.Goals as goal

pub returns : goal.returns
returns g c = Writes-behind c.new-piece.ensures c.in_ok-push_reported.ensures (subst (λ w. Writes g.W.Sink c.push_reported.new.sink c.write_and_flush.new.sink w c.write_and_flush.result) c.as_slice.ensures.value c.write_and_flush.ensures)
