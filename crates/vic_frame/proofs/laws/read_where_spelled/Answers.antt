use Rattle.vic_frame.proofs.Words.{IfOk, subst, SpellsRequest, SpellsReply}
use Rattle.vic_frame.proofs.RequestLaws.{request_found, request_only}
use Rattle.vic_frame.proofs.ReplyLaws.{reply_found, reply_only}
use Rattle.vic_frame.proofs.laws.read_where_spelled.Goals as goal

pub returns-clause-request : goal.returns-clause-request
returns-clause-request c f q h = (λ e. subst (λ r. IfOk r (λ q. SpellsRequest f q)) e (request_found f h), λ s. request_only f q s)

pub returns-clause-reply : goal.returns-clause-reply
returns-clause-reply c f r h = (λ e. subst (λ x. IfOk x (λ r. SpellsReply f r)) e (reply_found f h), λ s. reply_only f r s)
