use Rattle.vic_log.proofs.Words.{◌≡◌, ◌≤◌, ◌-◌, ◌∙◌, ap, sym, Some, arith, common_steps, first_is_block, in_span}
use Rattle.vic_frame.specs.LowBitsFirst.{first_key_of, mirror}
use Rattle.vic_frame.specs.Slots.{slot_mask}
use Rattle.vic_log.proofs.rounds.KeyedRound.keys.Goals as goal

pub invariant_of-result : goal.invariant_of-result
invariant_of-result c =
    let m = c.in-Inventory.mask in
    let short : m.len ≤ 56 = omega (arith, c.len.ensures.value, c.if-len-le-UID_BITS.true) in
    let first : c.self.inside.first ≡ mirror m.value = c.self.invariant ∙ ap first_key_of c.in-Inventory.is in
    record { block = rw (first, c.len-then-len-le-UID_BITS.ensures.value) (first_is_block m c.len.ensures.is_mask short) }

pub returns-then-len-le-UID_BITS : goal.returns-then-len-le-UID_BITS
returns-then-len-le-UID_BITS c u valid w =
    let m = c.in-Inventory.mask in
    let short : m.len ≤ 56 = omega (arith, c.len.ensures.value, c.if-len-le-UID_BITS.true) in
    let first : c.self.inside.first ≡ mirror m.value = c.self.invariant ∙ ap first_key_of c.in-Inventory.is in
    let one : slot_mask c.args.self.now.request c.args.self.now.next ≡ Some m = grind (arith, common_steps) in
    rw (first, c.len-then-len-le-UID_BITS.ensures.value, one) (sym (in_span m.len (56 - m.len) m.value u (omega (arith, short)) c.len.ensures.is_mask.1))
