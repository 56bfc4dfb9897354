use Rattle.vic_answer.proofs.Words.{IsReportOf}
use Rattle.vic_answer.proofs.CheckLines.{report_tells}
use Rattle.vic_answer.proofs.CompleteRuns.{complete_where_written}
use Rattle.vic_answer.proofs.report.run_report.Goals as goal

pub returns-clause-complete : goal.returns-clause-complete
returns-clause-complete g c = complete_where_written g.R.Source g.W.Sink IsReportOf _ _ _ _ report_tells c.run_judged.result c.run_judged.ensures.answer
