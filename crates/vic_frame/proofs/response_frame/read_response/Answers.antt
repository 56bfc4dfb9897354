use Rattle.vic_frame.proofs.Words.{◌∙◌, arith}
use Rattle.vic_frame.proofs.ReplyLaws.{reply_found, reply_only}
use Rattle.vic_frame.proofs.response_frame.read_response.Goals as goal

pub returns-clause-found : goal.returns-clause-found
returns-clause-found c = rw c.read_fields.ensures (reply_found c.args.bytes.now (λ k. omega (arith, c.type_inv.bytes k)))

pub returns-clause-only : goal.returns-clause-only
returns-clause-only c r s = c.read_fields.ensures ∙ reply_only c.args.bytes.now r s
