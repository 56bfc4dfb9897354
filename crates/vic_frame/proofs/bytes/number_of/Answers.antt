use Rattle.vic_frame.proofs.Words.{drop, arith, length-drop}
use Rattle.vic_frame.proofs.BytesLaws.{number_within, AreBytes-drop}
use Rattle.vic_frame.proofs.bytes.number_of.Goals as goal

pub overflow_mul-number : goal.overflow_mul-number
overflow_mul-number c =
    let below = number_within 7 (drop c.loop-i.i c.args.bytes.now) (AreBytes-drop c.loop-i.i c.args.bytes.now (λ k. omega (arith, c.type_inv.bytes k))) (omega (arith, length-drop c.loop-i.i c.args.bytes.now)) in
    omega (arith, below)

pub overflow_add-number : goal.overflow_add-number
overflow_add-number c =
    let below = number_within 7 (drop c.loop-i.i c.args.bytes.now) (AreBytes-drop c.loop-i.i c.args.bytes.now (λ k. omega (arith, c.type_inv.bytes k))) (omega (arith, length-drop c.loop-i.i c.args.bytes.now)) in
    omega (arith, below)
