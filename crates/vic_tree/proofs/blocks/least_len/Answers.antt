use Rattle.vic_tree.proofs.Words.{◌≡◌, ℕ, ◌-◌, arith}
use Rattle.vic_tree.proofs.BlockLaws.{no_wider, few_bits}
use Rattle.vic_tree.proofs.blocks.least_len.Goals as goal

pub overflow_sub-result : goal.overflow_sub-result
overflow_sub-result c = few_bits c.ilog2-bits.result (omega (arith, c.ilog2-bits.ensures.power_le))

pub returns-clause-none : goal.returns-clause-none
returns-clause-none c l n lt w = no_wider c.args.range.0 c.args.range.1 c.ilog2-bits.result l n (few_bits c.ilog2-bits.result (omega (arith, c.ilog2-bits.ensures.power_le))) c.first.ensures.is_range.0 (omega (arith, c.ilog2-bits.ensures.next_power_gt)) lt w

pub returns-clause-greatest : goal.returns-clause-greatest
returns-clause-greatest c =
    let bits : ℕ = c.ilog2-bits.result in
    let most = few_bits bits (omega (arith, c.ilog2-bits.ensures.power_le)) in
    let back : 56 - (56 - bits) ≡ bits = omega (arith, most) in
    rw back (omega (arith, c.ilog2-bits.ensures.power_le))
