use Rattle.vic_frame.proofs.Words.{ℕ, ◌≡◌, ◌+◌, ◌-◌, ◌^◌, ◌<◌, ◌∙◌, ◌&&◌, ap, subst, sym, arith, nat_le, mod-eq_of_lt, BitMask, lies_in, IsBlock, mirror}
use Rattle.vic_frame.proofs.MirrorLaws.{block_value, in_span, mirror_twice}
use Rattle.vic_frame.proofs.low_bits_first.mask_of_keys.Goals as goal

fits : (first len value : ℕ) → IsBlock first len → value ≡ mirror first → value < 2 ^ len
fits first len value block is =
    let short = block.short in
    subst (λ (x : ℕ). x < 2 ^ len) (sym is) (block_value len (56 - len) first (omega (arith, short)) block.aligned)

pub of_bits-requires : goal.of_bits-requires
of_bits-requires c =
    let short = c.requires.short in
    (omega (arith, short), fits c.args.first c.args.len c.number.result c.requires (c.number.ensures.value ∙ c.turn_round.ensures))

pub returns-clause-first : goal.returns-clause-first
returns-clause-first c =
    let keys = c.requires.keys in
    ap (λ (m : BitMask). mirror m.value) c.of_bits.ensures
    ∙ ap mirror (c.number.ensures.value ∙ c.turn_round.ensures)
    ∙ mirror_twice 56 c.args.first
    ∙ mod-eq_of_lt (omega (arith, keys))

pub returns-clause-inside : goal.returns-clause-inside
returns-clause-inside c u =
    let short = c.requires.short in
    let first = returns-clause-first c in
    ap (λ (m : BitMask). lies_in m u) c.of_bits.ensures
    ∙ in_span c.args.len (56 - c.args.len) c.number.result u (omega (arith, short)) (fits c.args.first c.args.len c.number.result c.requires (c.number.ensures.value ∙ c.turn_round.ensures))
    ∙ ap (λ (x : ℕ). nat_le x (mirror u) && nat_le (mirror u) (x + (2 ^ (56 - c.args.len) - 1))) (ap (λ (m : BitMask). mirror m.value) (sym c.of_bits.ensures) ∙ first)
