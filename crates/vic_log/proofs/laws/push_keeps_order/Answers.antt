use Rattle.vic_log.proofs.Words.{[]}
use Rattle.vic_log.proofs.Push.{IsInOrder-push}
use Rattle.vic_log.proofs.Follow.{first_reason-none}
use Rattle.vic_log.proofs.laws.push_keeps_order.Goals as goal

pub returns : goal.returns
returns c = λ es e o. ((λ h. first_reason-none _ _ _ es [] e h), (λ h. IsInOrder-push es e o h))
