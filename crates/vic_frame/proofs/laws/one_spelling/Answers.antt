use Rattle.vic_frame.proofs.Words.{◌∙◌, sym, refl, request_spelling, reply_spelling}
use Rattle.vic_frame.proofs.RequestLaws.{request_only}
use Rattle.vic_frame.proofs.ReplyLaws.{reply_only}
use Rattle.vic_frame.proofs.laws.one_spelling.Goals as goal

pub returns-clause-some : goal.returns-clause-some
returns-clause-some c q h v = (request_spelling q, (h, v, refl))

pub returns-clause-one : goal.returns-clause-one
returns-clause-one c f g q s t = s.2 ∙ sym t.2

pub returns-clause-only : goal.returns-clause-only
returns-clause-only c f q r s t = let e = request_only f q s in let d = request_only f r t in cc

pub returns-clause-some_reply : goal.returns-clause-some_reply
returns-clause-some_reply c r h = (reply_spelling r, (h, refl))

pub returns-clause-one_reply : goal.returns-clause-one_reply
returns-clause-one_reply c f g r s t = s.1 ∙ sym t.1

pub returns-clause-reply : goal.returns-clause-reply
returns-clause-reply c f q r s t = let e = reply_only f q s in let d = reply_only f r t in cc
