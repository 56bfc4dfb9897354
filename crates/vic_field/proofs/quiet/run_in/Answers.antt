use Rattle.vic_field.proofs.Words.{◌≡◌, ◌/◌, ◌%◌, ◌+◌, ◌-◌, ap, refl, ◌∙◌, arith, nat_eq, eq-eqb, bit_at}
use Rattle.vic_field.proofs.quiet.run_in.Goals as goal

pub returns-clause-set : goal.returns-clause-set
returns-clause-set c k low high =
    let bit = c.args.bit in
    let within = c.ones_from.ensures.within in
    let number : k / 64 ≡ bit / 64 = omega (arith, within, low, high) in
    let from : k % 64 ≡ bit % 64 + (k - bit) = omega (arith, within, low, high) in
    c.bits_in.ensures k number ∙ eq-eqb _ 1 (ap (bit_at c.bits_in.result) from ∙ c.ones_from.ensures.ones (k - bit) (omega (arith, low, high)))

pub returns-clause-end : goal.returns-clause-end
returns-clause-end c e = c.bits_in.ensures c.args.bit refl ∙ ap (λ b. nat_eq b 1) (c.ones_from.ensures.end e)
