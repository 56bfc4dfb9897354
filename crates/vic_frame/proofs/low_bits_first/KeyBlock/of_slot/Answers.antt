use Rattle.vic_frame.proofs.Words.{ℕ, ◌≡◌, ◌+◌, ◌-◌, ◌*◌, ◌/◌, ◌^◌, ◌%◌, ◌<◌, ◌≤◌, ◌∙◌, refl, ap, arith, BitMask, IsMask, lies_in, IsBlock, mirror, mirror_bits, slot_of_sixteen, is_in_block}
use Rattle.vic_frame.proofs.MirrorLaws.{block_of, first_of, mirror_below, mirror_of_slot, slot_is_mask}
use Rattle.vic_frame.proofs.low_bits_first.KeyBlock.of_slot.Goals as goal

slot_keys : (m : BitMask) (first four t len k : ℕ) → IsMask m → m.len + 4 ≤ 56 → k ≤ 15 → len ≡ m.len → first ≡ mirror m.value → four ≡ t / 16 → t ≡ mirror_bits 8 k
    → IsBlock (first + four * 2 ^ (56 - (len + 4)) % 2 ^ 64) (len + 4) × ((u : ℕ) → lies_in (slot_of_sixteen m k) u ≡ is_in_block (first + four * 2 ^ (56 - (len + 4)) % 2 ^ 64) (len + 4) (mirror u))
slot_keys m first four t len k is_mask short few same at_first is byte =
    let slot = mirror_of_slot m.len m.value k short is_mask.1 few in
    let four_is : four ≡ mirror_bits 4 k = omega (arith, is, byte, first_of 4 4 8 k refl (omega arith)) in
    let small : mirror_bits 56 (m.value + k * 2 ^ m.len) < 2 ^ 56 = mirror_below 56 (m.value + k * 2 ^ m.len) in
    let start : first + four * 2 ^ (56 - (len + 4)) % 2 ^ 64 ≡ mirror (m.value + k * 2 ^ m.len) = rw (same, at_first, four_is) (omega (arith, slot, small)) in
    block_of (slot_of_sixteen m k) (first + four * 2 ^ (56 - (len + 4)) % 2 ^ 64) (len + 4) (slot_is_mask m k is_mask short few) short start (ap (λ n. n + 4) same)

pub overflow_add-result : goal.overflow_add-result
overflow_add-result c =
    let block = (slot_keys c.args.mask.now c.number.result c.from.result c.turn_byte-four_bits.result c.len-len.result c.args.k c.len-len.ensures.is_mask c.requires.short c.requires.slot c.len-len.ensures.value (c.number.ensures.value ∙ c.requires.first) c.from.ensures c.turn_byte-four_bits.ensures).0 in
    omega (arith, block.keys)

pub invariant_of-result : goal.invariant_of-result
invariant_of-result c =
    let block = (slot_keys c.args.mask.now c.number.result c.from.result c.turn_byte-four_bits.result c.len-len.result c.args.k c.len-len.ensures.is_mask c.requires.short c.requires.slot c.len-len.ensures.value (c.number.ensures.value ∙ c.requires.first) c.from.ensures c.turn_byte-four_bits.ensures).0 in
    omega (arith, block.keys)

pub invariant_of-result-2 : goal.invariant_of-result-2
invariant_of-result-2 c = record { block = (slot_keys c.args.mask.now c.number.result c.from.result c.turn_byte-four_bits.result c.len-len.result c.args.k c.len-len.ensures.is_mask c.requires.short c.requires.slot c.len-len.ensures.value (c.number.ensures.value ∙ c.requires.first) c.from.ensures c.turn_byte-four_bits.ensures).0 }

pub returns : goal.returns
returns c = (slot_keys c.args.mask.now c.number.result c.from.result c.turn_byte-four_bits.result c.len-len.result c.args.k c.len-len.ensures.is_mask c.requires.short c.requires.slot c.len-len.ensures.value (c.number.ensures.value ∙ c.requires.first) c.from.ensures c.turn_byte-four_bits.ensures).1
