use Rattle.vic_frame.proofs.Words.{◌+◌, ◌-◌, ◌/◌, ◌++◌, ap, sym, ◌∙◌, arith, bytes_of}
use Rattle.vic_frame.proofs.BytesLaws.{bytes_of-push, bytes_of-end}
use Rattle.vic_frame.proofs.bytes.push_number.Goals as goal

pub loop-i-preserved : goal.loop-i-preserved
loop-i-preserved g c = (
  ap (λ xs. xs ++ bytes_of (c.args.count - (c.loop-i.i + 1)) (c.loop-i.rest / 256)) c.push.ensures.items
      ∙ bytes_of-push c.loop-i.out.items (c.args.count - c.loop-i.i) (c.args.count - (c.loop-i.i + 1)) c.loop-i.rest (omega arith)
      ∙ c.loop-i.invariant.0,
  omega arith,
)

pub returns-clause-items : goal.returns-clause-items
returns-clause-items g c = sym (bytes_of-end c.loop-i.out.items (c.args.count - c.loop-i.i) c.loop-i.rest (omega arith)) ∙ c.loop-i.invariant.0
