use Rattle.vic_tree.proofs.Words.{ℕ, ◌+◌, ◌-◌, ◌*◌, ◌/◌, ◌∙◌, ap, arith, rules, Some}
use Rattle.vic_tree.proofs.BlockLaws.{IsBlockMask, is_block}
use Rattle.vic_tree.proofs.OpenBlocks.{edge_is_maximal, end_is_edge, end_is_only, mask_at}
use Rattle.vic_tree.proofs.open_masks.maximal_at_end.Goals as goal
use Rattle.vic_tree.proofs.open_masks.maximal_at_end.Goals.{then-count-eq0-via-then-count-eq0, then-count-eq0-via-else-count-eq0+then-count-size}

pub returns-then-count-eq0-clause-only : goal.returns-then-count-eq0-clause-only
returns-then-count-eq0-clause-only c m g =
    let s = c.size_of_block-size in
    let last = c.last.ensures.value in
    let only = end_is_only c.args.run.0 c.last.result c.args.len s.result m s.ensures.value s.ensures.some (omega (arith, c.last.ensures.is_range.1)) (rw (← last) at g) in
    elim c.then-count-eq0.branch [
      | then-count-eq0-via-then-count-eq0 w ↦ absurd (omega (arith, only.1, w.if-count-eq0.true))
      | then-count-eq0-via-else-count-eq0+then-count-size w ↦ absurd (omega (arith, only.2.inside.0, w.if-count-size.true))
    ]

pub mask_of_keys-requires : goal.mask_of_keys-requires
mask_of_keys-requires c =
    let s = c.size_of_block-size in
    let j : ℕ = (c.last.result + 1) / s.result - 1 in
    let edge = end_is_edge c.first.result c.last.result s.result j s.ensures.some (omega (arith, c.if-count-eq0.false)) (omega (arith, c.if-count-eq0.false)) c.if-count-size.false in
    is_block c.args.len j s.result c.last.result c.requires.short (omega (arith, c.last.ensures.is_range.1)) s.ensures.value (omega (arith, edge.inside.1))

pub returns : goal.returns
returns c =
    let s = c.size_of_block-size in
    let small = rw (← c.last.ensures.value) at c.last.ensures.is_range.1 in
    let j : ℕ = (c.last.result + 1) / s.result - 1 in
    let block : IsBlockMask c.args.len j c.mask_of_keys.result = record { len_is = c.mask_of_keys.ensures.len; is_mask = search rules; first_is = c.mask_of_keys.ensures.first ∙ ap (λ (x : ℕ). j * x) s.ensures.value } in
    rw (← c.first.ensures.value, ← c.last.ensures.value) record {
      found = edge_is_maximal c.first.result c.last.result c.args.len j s.result 0 c.mask_of_keys.result c.requires.short small s.ensures.value block
          (end_is_edge c.first.result c.last.result s.result j s.ensures.some (omega (arith, c.if-count-eq0.false)) (omega (arith, c.if-count-eq0.false)) c.if-count-size.false)
          (omega (arith, c.if-count-eq0.false));
      only = λ m g. ap Some (mask_at c.first.result c.last.result c.args.len j 0 m c.mask_of_keys.result c.requires.short block (end_is_only c.first.result c.last.result c.args.len s.result m s.ensures.value s.ensures.some small g).0 g);
    }
