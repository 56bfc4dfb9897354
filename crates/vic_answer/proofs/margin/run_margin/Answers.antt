use Rattle.vic_answer.specs.MarginText.{IsMarginOf}
use Rattle.vic_answer.proofs.CheckLines.{margin_tells}
use Rattle.vic_answer.proofs.CompleteRuns.{complete_where_written_first}
use Rattle.vic_answer.proofs.margin.run_margin.Goals as goal

pub returns-clause-complete : goal.returns-clause-complete
returns-clause-complete g c = complete_where_written_first g.R.Source g.W.Sink IsMarginOf _ _ _ _ margin_tells c.run_judged.result c.run_judged.ensures.answer
