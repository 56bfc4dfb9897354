use Rattle.vic_tree.proofs.Words.{ℕ, ◌-◌, ◌*◌, ◌^◌, ◌≤◌, ◌∙◌, ap, arith, rules, Some, pow_mono}
use Rattle.vic_tree.proofs.BlockLaws.{IsBlockMask, first_block, is_block}
use Rattle.vic_tree.proofs.OpenBlocks.{edge_is_maximal, mask_at, start_is_only}
use Rattle.vic_tree.proofs.open_masks.maximal_at_start.Goals as goal
use Rattle.vic_tree.proofs.open_masks.maximal_at_start.Goals.{then-number-eq0-via-then-number-eq0, then-number-eq0-via-else-number-eq0+then-last-number}

pub overflow_mul-number : goal.overflow_mul-number
overflow_mul-number c =
    let f = first_block c.first.result c.size_of_block-size.result c.div_ceil-number.result c.size_of_block-size.ensures.some c.div_ceil-number.ensures in
    let most : 2 ^ (56 - c.args.len) ≤ 2 ^ 56 = pow_mono {j = 56} (omega arith) in
    omega (arith, f.near, most, c.size_of_block-size.ensures.value)

pub returns-then-number-eq0-clause-only : goal.returns-then-number-eq0-clause-only
returns-then-number-eq0-clause-only c m g =
    let s = c.size_of_block-size in
    let q = c.div_ceil-number.result in
    let only = start_is_only c.args.run.0 c.args.run.1 c.args.len q s.result m s.ensures.value c.first.ensures.is_range.1 (rw c.first.ensures.value at (first_block c.first.result s.result q s.ensures.some c.div_ceil-number.ensures)) g in
    elim c.then-number-eq0.branch [
      | then-number-eq0-via-then-number-eq0 w ↦ absurd (omega (arith, only.0, g.side, w.if-number-eq0.true))
      | then-number-eq0-via-else-number-eq0+then-last-number w ↦ absurd (omega (arith, only.1.inside.1, w.if-last-number.true))
    ]

pub mask_of_keys-requires : goal.mask_of_keys-requires
mask_of_keys-requires c = is_block c.args.len c.div_ceil-number.result c.size_of_block-size.result c.args.run.1 c.requires.short c.first.ensures.is_range.1 c.size_of_block-size.ensures.value (omega (arith, c.if-last-number.false))

pub returns : goal.returns
returns c =
    let s = c.size_of_block-size in
    let q = c.div_ceil-number.result in
    let f = rw c.first.ensures.value at (first_block c.first.result s.result q s.ensures.some c.div_ceil-number.ensures) in
    let block : IsBlockMask c.args.len q c.mask_of_keys.result = record { len_is = c.mask_of_keys.ensures.len; is_mask = search rules; first_is = c.mask_of_keys.ensures.first ∙ ap (λ (x : ℕ). q * x) s.ensures.value } in
    record {
      found = edge_is_maximal c.args.run.0 c.args.run.1 c.args.len q s.result 1 c.mask_of_keys.result c.requires.short c.first.ensures.is_range.1 s.ensures.value block
          (record { inside = (f.from, omega (arith, c.if-last-number.false)); upper = λ odd. f.near; lower = λ even. absurd (omega (arith, c.if-number-eq0.false)) })
          (omega (arith, c.if-number-eq0.false));
      only = λ m g. ap Some (mask_at c.args.run.0 c.args.run.1 c.args.len q 1 m c.mask_of_keys.result c.requires.short block (start_is_only c.args.run.0 c.args.run.1 c.args.len q s.result m s.ensures.value c.first.ensures.is_range.1 f g).0 g);
    }
