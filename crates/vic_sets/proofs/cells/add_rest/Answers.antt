use Rattle.vic_sets.proofs.Words.{◌≡◌, ◌∙◌, ◌≤◌, ◌&&◌, ◌||◌, Bool, true, not, sym, ap, refl, arith, BitMask, lies_in, in_cells, cut_at, and_parts}
use Rattle.vic_sets.proofs.CutLaws.{flipped_is, cut_more, cut_less, cut_self, one_more}
use Rattle.vic_sets.proofs.CellLaws.{rest_added}
use Rattle.vic_sets.proofs.cells.add_rest.Goals as goal

pub add-requires-in-loop-len : goal.add-requires-in-loop-len
add-requires-in-loop-len c u i h =
    let m = c.in-Some.inner in
    let l = c.loop-len.len in
    let cell = c.args.cell.now in
    let cut : lies_in (cut_at l m) u ≡ true = (and_parts _ _ (sym (flipped_is m l u) ∙ ap (λ x. lies_in x u) (sym c.flipped.ensures) ∙ h)).0 in
    let from : cell.len ≤ l = omega arith in
    let whole : lies_in cell u ≡ true = ap (λ x. lies_in x u) (sym c.in-Some.ensures.within.1) ∙ cut_less m cell.len l u from cut in
    c.loop-len.invariant u i ∙ rw (c.requires u i whole, cut, whole) refl

pub loop-len-preserved : goal.loop-len-preserved
loop-len-preserved c =
    let m = c.in-Some.inner in
    let l = c.loop-len.len in
    let cell = c.args.cell.now in
    let from : cell.len ≤ l = omega arith in
    λ u i.
    let within : lies_in (cut_at l m) u ≡ true → lies_in cell u ≡ true = λ h. ap (λ x. lies_in x u) (sym c.in-Some.ensures.within.1) ∙ cut_less m cell.len l u from h in
    c.in_ok-add-2.ensures u i ∙ rw (c.loop-len.invariant u i, c.flipped.ensures, flipped_is m l u, cut_more m l u) (one_more (in_cells c.args.cells.now u) (lies_in cell u) (lies_in (cut_at l m) u) _ within)

pub returns : goal.returns
returns c u i =
    let m = c.in-Some.inner in
    let cell = c.args.cell.now in
    let whole : cut_at c.loop-len.len m ≡ m = (let e : c.loop-len.len ≡ m.len = omega (arith, c.in-Some.ensures.within.0) in ap (λ l. cut_at l m) e ∙ cut_self m c.len-len-end.ensures.cell.0) in
    c.loop-len.invariant u i ∙ ap (λ (x : BitMask). in_cells c.args.cells.now u || (lies_in cell u && not (lies_in x u))) whole
    ∙ ap (λ (b : Bool). in_cells c.args.cells.now u || (lies_in cell u && not b)) (c.in-Some.ensures.both u)
    ∙ rest_added (in_cells c.args.cells.now u) (lies_in cell u) (lies_in c.args.mask.now u)
