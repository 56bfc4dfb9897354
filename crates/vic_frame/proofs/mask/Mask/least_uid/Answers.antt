use Rattle.vic_frame.proofs.Words.{ℕ, ◌^◌, ◌%◌, ◌∙◌, ap, arith, BitMask}
use Rattle.vic_frame.proofs.MaskLaws.{least_inside, least_first, least_is_uid}
use Rattle.vic_frame.proofs.mask.Mask.least_uid.Goals as goal

pub from_low_bits-requires : goal.from_low_bits-requires
from_low_bits-requires c =
    let short = rw (← c.self.view_is) at c.requires in
    omega (arith, least_is_uid (record { len = c.self.inside.len; value = c.self.inside.value }) c.self.invariant short)

pub returns-clause-inside : goal.returns-clause-inside
returns-clause-inside c =
    let m : BitMask = record { len = c.self.inside.len; value = c.self.inside.value } in
    let short = rw (← c.self.view_is) at c.requires in
    rw (← c.self.view_is) (ap (λ (u : ℕ). u % 2 ^ m.len) c.from_low_bits.ensures.value ∙ least_inside m c.self.invariant short)

pub returns-clause-least : goal.returns-clause-least
returns-clause-least c u is_uid inside =
    let m : BitMask = record { len = c.self.inside.len; value = c.self.inside.value } in
    let short = rw (← c.self.view_is) at c.requires in
    let first = least_first m u short is_uid (rw (← c.self.view_is) at inside) in
    omega (arith, first, c.from_low_bits.ensures.value)
