use Rattle.vic_frame.proofs.Words.{ℕ, ◌≡◌, ◌+◌, ◌*◌, ◌/◌, ◌%◌, ◌<◌, ◌^◌, ◌∙◌, ap, sym, refl, arith, div-one}
use Rattle.vic_frame.specs.LowBitsFirst.{mirror_bits}
use Rattle.vic_frame.proofs.MirrorLaws.{mirror_below, turn-next, rest-next, turned_below}
use Rattle.vic_frame.proofs.low_bits_first.turn_round.Goals as goal

pub loop-init : goal.loop-init
unfolding mirror_bits
loop-init c = (refl, sym (div-one c.args.number))

pub overflow_mul-turned : goal.overflow_mul-turned
overflow_mul-turned c = let h = turned_below c.loop.counter c.args.number c.loop-test.true in omega (arith, h, c.loop.invariant.0)

pub overflow_add-turned : goal.overflow_add-turned
overflow_add-turned c = let h = turned_below c.loop.counter c.args.number c.loop-test.true in omega (arith, h, c.loop.invariant.0)

pub loop-preserved : goal.loop-preserved
loop-preserved c =
    let i = c.loop.counter in
    let n = c.args.number in
    let byte : c.from.result ≡ mirror_bits 8 (c.loop.rest % 256) = c.from.ensures ∙ c.turn_byte.ensures in
    let low = ap (λ (x : ℕ). mirror_bits 8 (x % 256)) c.loop.invariant.1 in (
      ap (λ (x : ℕ). x * 256 + c.from.result) c.loop.invariant.0
          ∙ ap (λ (x : ℕ). mirror_bits (8 * i) n * 256 + x) (byte ∙ low)
          ∙ sym (turn-next i n),
      ap (λ (x : ℕ). x / 256) c.loop.invariant.1 ∙ rest-next i n,
    )

pub returns : goal.returns
returns c =
    let e : 8 * c.loop.counter ≡ 56 = omega (arith, c.loop-test.false, c.loop.auto.counter-end) in
    c.loop.invariant.0 ∙ ap (λ (k : ℕ). mirror_bits k c.args.number) e

pub invariant_of-result : goal.invariant_of-result
invariant_of-result c =
    let is = returns c in
    let below : mirror_bits 56 c.args.number < 2 ^ 56 = mirror_below 56 c.args.number in
    omega arith
