use Rattle.vic_answer.proofs.Words.{IfOk-weaker}
use Rattle.vic_answer.proofs.CheckLines.{complete_text}
use Rattle.vic_answer.proofs.check.judge_text.Goals as goal

pub returns-clause-whole : goal.returns-clause-whole
returns-clause-whole c = IfOk-weaker c.find_in_text.result _ _ (λ a right count is. complete_text c.args.text.now a count is right) c.find_in_text.ensures.found
