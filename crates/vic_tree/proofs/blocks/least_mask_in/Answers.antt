use Rattle.vic_tree.proofs.Words.{◌≡◌, ℕ, ◌+◌, ◌-◌, ◌*◌, ◌^◌, ◌%◌, ◌<◌, ◌≤◌, ◌∙◌, inl, inr, cases_lt, ap, sym, arith, rules, pow_mono, min, ◌/◌, IsAtMost, block_size}
use Rattle.vic_tree.proofs.BlockLaws.{FirstBlock, first_block, is_block, IsBlockMask, least_of_two}
use Rattle.vic_tree.proofs.blocks.least_mask_in.Goals as goal

begins : (x first len s q : ℕ) → x ≡ first → s ≡ block_size len → 0 < s → q ≡ x / s + min 1 (x % s) → FirstBlock first (block_size len) q
begins x first len s q at size some is = rw (at, size) at (first_block x s q some is)

pub overflow_mul-number : goal.overflow_mul-number
overflow_mul-number c =
    let s = c.size_of_block-size in
    let f = first_block c.first.result s.result c.div_ceil-number.result s.ensures.some c.div_ceil-number.ensures in
    let most : 2 ^ (56 - c.args.len) ≤ 2 ^ 56 = pow_mono {j = 56} (omega arith) in
    omega (arith, f.near, most, s.ensures.value)

pub mask_of_keys-mask-requires : goal.mask_of_keys-mask-requires
mask_of_keys-mask-requires c =
    is_block c.args.len c.div_ceil-number.result c.size_of_block-size.result c.args.range.1 c.requires.short c.first.ensures.is_range.1 c.size_of_block-size.ensures.value (omega (arith, c.if-last-number.false))

pub mask_of_keys-next-requires : goal.mask_of_keys-next-requires
mask_of_keys-next-requires c =
    let s = c.size_of_block-size.result in
    is_block c.args.len (c.div_ceil-number.result + 1) s c.args.range.1 c.requires.short c.first.ensures.is_range.1 c.size_of_block-size.ensures.value (omega (arith, c.if-number-size.true))

pub returns-then-number-size-clause-least : goal.returns-then-number-size-clause-least
returns-then-number-size-clause-least c =
    let len = c.args.len in
    let q = c.div_ceil-number.result in
    let s = c.size_of_block-size in
    let f = begins c.first.result c.args.range.0 len s.result q c.first.ensures.value s.ensures.value s.ensures.some c.div_ceil-number.ensures in
    let x : IsBlockMask len q c.mask_of_keys-mask.result = record { len_is = c.mask_of_keys-mask.ensures.len; is_mask = search rules; first_is = c.mask_of_keys-mask.ensures.first ∙ ap (λ (y : ℕ). q * y) s.ensures.value } in
    let y : IsBlockMask len (q + 1) c.mask_of_keys-next.result = record { len_is = c.mask_of_keys-next.ensures.len; is_mask = search rules; first_is = c.mask_of_keys-next.ensures.first ∙ ap (λ (y : ℕ). (q + 1) * y) s.ensures.value } in
    let at_most : IsAtMost c.min.result c.mask_of_keys-mask.result × IsAtMost c.min.result c.mask_of_keys-next.result = search rules in
    let same : c.min.result.len ≡ len = search rules in
    least_of_two c.args.range.0 c.args.range.1 len q c.min.result c.mask_of_keys-mask.result c.requires.short c.first.ensures.is_range.1 c.requires.none f.from f.near x (at_most.0.1 (same ∙ sym x.len_is)) (λ fits. (c.mask_of_keys-next.result, y, at_most.1.1 (same ∙ sym y.len_is)))

pub returns-clause-least : goal.returns-clause-least
returns-clause-least c =
    let len = c.args.len in
    let q = c.div_ceil-number.result in
    let s = c.size_of_block-size in
    let f = begins c.first.result c.args.range.0 len s.result q c.first.ensures.value s.ensures.value s.ensures.some c.div_ceil-number.ensures in
    let x : IsBlockMask len q c.mask_of_keys-mask.result = record { len_is = c.mask_of_keys-mask.ensures.len; is_mask = search rules; first_is = c.mask_of_keys-mask.ensures.first ∙ ap (λ (y : ℕ). q * y) s.ensures.value } in
    let over : c.last-last.result + 1 < (q + 2) * 2 ^ (56 - len) = rw s.ensures.value at c.if-number-size.false in
    least_of_two c.args.range.0 c.args.range.1 len q c.mask_of_keys-mask.result c.mask_of_keys-mask.result c.requires.short c.first.ensures.is_range.1 c.requires.none f.from f.near x (omega arith) (λ fits. absurd (omega (arith, fits, over)))

pub returns-then-last-number-clause-longer : goal.returns-then-last-number-clause-longer
returns-then-last-number-clause-longer c = elim (cases_lt c.args.len 56) [
  | inl less ↦ less
  | inr all ↦
      let s = c.size_of_block-size in
      let whole : 56 - c.args.len ≡ 0 = omega (arith, all) in
      let one = rw whole at s.ensures.value in
      let f = first_block c.first.result s.result c.div_ceil-number.result s.ensures.some c.div_ceil-number.ensures in
      absurd (omega (arith, rw one at f.near, rw one at c.if-last-number.true))
]
