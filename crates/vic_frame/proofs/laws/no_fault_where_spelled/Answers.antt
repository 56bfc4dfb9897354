use Rattle.vic_frame.proofs.Words.{◌∙◌, ap, first_fault, reply_in, request_faults, reply_faults, request_in}
use Rattle.vic_frame.proofs.RequestLaws.{request_sound, request_read}
use Rattle.vic_frame.proofs.ReplyLaws.{reply_sound, reply_read}
use Rattle.vic_frame.proofs.laws.no_fault_where_spelled.Goals as goal

pub returns-clause-request : goal.returns-clause-request
returns-clause-request c f h = (
  λ none. (request_in f, request_sound f h none),
  λ s. ap (λ f. first_fault (request_faults f)) s.1.2 ∙ (request_read s.0 s.1.0 s.1.1).0,
)

pub returns-clause-reply : goal.returns-clause-reply
returns-clause-reply c f h = (
  λ none. (reply_in f, reply_sound f h none),
  λ s. ap (λ f. first_fault (reply_faults f)) s.1.1 ∙ (reply_read s.0 s.1.0).0,
)
