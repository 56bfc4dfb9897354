use Rattle.vic_answer.proofs.Words.{IsCheckOf}
use Rattle.vic_answer.proofs.CheckLines.{check_tells}
use Rattle.vic_answer.proofs.CompleteRuns.{complete_where_revealed, complete_where_written}
use Rattle.vic_answer.proofs.check.run_check.Goals as goal

pub returns-clause-complete : goal.returns-clause-complete
returns-clause-complete g c = complete_where_written g.R.Source g.W.Sink IsCheckOf _ _ _ _ check_tells c.run_judged.result c.run_judged.ensures.answer

pub returns-clause-complete_revealed : goal.returns-clause-complete_revealed
returns-clause-complete_revealed g c = complete_where_revealed g.R.Source g.W.Sink IsCheckOf _ _ _ _ check_tells c.run_judged.result c.run_judged.ensures.answer_revealed
