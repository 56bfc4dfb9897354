use Rattle.vic_frame.proofs.Words.{◌∙◌, arith}
use Rattle.vic_frame.proofs.RequestLaws.{request_found, request_only}
use Rattle.vic_frame.proofs.request_frame.read_request.Goals as goal

pub returns-clause-found : goal.returns-clause-found
returns-clause-found c = rw c.read_fields.ensures (request_found c.args.bytes.now (λ k. omega (arith, c.type_inv.bytes k)))

pub returns-clause-only : goal.returns-clause-only
returns-clause-only c q s = c.read_fields.ensures ∙ request_only c.args.bytes.now q s
