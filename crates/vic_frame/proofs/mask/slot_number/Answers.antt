use Rattle.vic_frame.proofs.Words.{◌≡◌, ◌+◌, ◌*◌, ◌^◌, ap, ◌∙◌, arith, pow-add, pow-le-pow_right, shl_whole, mul-le}
use Rattle.vic_frame.proofs.mask.slot_number.Goals as goal

pub returns-clause-value : goal.returns-clause-value
returns-clause-value c = shl_whole c.from.result 4 c.args.len 64 (omega arith) (omega arith) ∙ ap (λ k. k * 2 ^ c.args.len) c.from.ensures

pub returns-clause-fits : goal.returns-clause-fits
returns-clause-fits c =
    let whole = shl_whole c.from.result 4 c.args.len 64 (omega arith) (omega arith) in
    let most = mul-le c.from.result (2 ^ c.args.len) 15 (2 ^ c.args.len) (omega arith) (omega arith) in
    let more : 2 ^ (c.args.len + 4) ≡ 2 ^ c.args.len * 2 ^ 4 = pow-add 2 c.args.len 4 in
    omega (arith, whole, most, more)

pub returns-clause-small : goal.returns-clause-small
returns-clause-small c = pow-le-pow_right {n = 2} (omega arith) {i = c.args.len + 4} {j = 64} (omega arith)
