use Rattle.vic_sets.proofs.Words.{◌≡◌, ◌∙◌, ◌+◌, ◌||◌, sym, ap, subst, take, AreApart, BitMask, lies_in, in_cells, and_left, list_any_more}
use Rattle.vic_sets.proofs.CellLaws.{apart_before, next_outside}
use Rattle.vic_sets.proofs.cells.outside.Goals as goal

pub add_rest-requires : goal.add_rest-requires
add_rest-requires c u i h =
    let xs = c.deref-cell-items.result.now in
    c.loop-cell.invariant u i ∙ and_left (in_cells (take c.loop-cell.cell-index xs) u) _ (apart_before xs c.loop-cell.cell-index c.cell-item.result (subst AreApart (sym c.deref-cell-items.ensures.value) c.cells.invariant.apart) c.loop-cell-test.true (sym c.cell-item.is) u i h)

pub loop-cell-preserved : goal.loop-cell-preserved
loop-cell-preserved c = λ u i.
    let xs = c.deref-cell-items.result.now in
    let n = c.loop-cell.cell-index in
    let x = c.cell-item.result in
    let more : in_cells (take (n + 1) xs) u ≡ (in_cells (take n xs) u || lies_in x u) = list_any_more (λ m. lies_in m u) xs n x c.loop-cell-test.true ∙ ap (λ (m : BitMask). in_cells (take n xs) u || lies_in m u) (sym c.cell-item.is) in
    c.in_ok-add_rest.ensures u i ∙ rw (c.loop-cell.invariant u i, more) (next_outside (in_cells (take n xs) u) (lies_in x u) (lies_in c.args.mask.now u))
