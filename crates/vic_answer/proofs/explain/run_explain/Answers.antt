use Rattle.vic_answer.proofs.Words.{IsExplanationOf}
use Rattle.vic_answer.proofs.CheckLines.{explanation_tells}
use Rattle.vic_answer.proofs.CompleteRuns.{complete_where_written}
use Rattle.vic_answer.proofs.explain.run_explain.Goals as goal

pub returns-clause-complete : goal.returns-clause-complete
returns-clause-complete g c = complete_where_written g.R.Source g.W.Sink IsExplanationOf _ _ _ _ explanation_tells c.run_judged.result c.run_judged.ensures.answer
