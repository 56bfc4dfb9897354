use Rattle.vic_log.proofs.One.{one_fault, not_both, some_answer}
use Rattle.vic_log.proofs.laws.one_answer.Goals as goal

pub returns : goal.returns
returns c = record { some = some_answer; fault = one_fault; log = not_both }
