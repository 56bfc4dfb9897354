use Rattle.vic_sets.proofs.Words.{◌≡◌, ◌∙◌, ℕ, ◌+◌, ◌||◌, ◌==◌, sym, ap, take, nat_eq, eqb-true, has, in_cells, list_any_more}
use Rattle.vic_sets.proofs.CellLaws.{next_added, next_there}
use Rattle.vic_sets.proofs.cells.add_back.Goals as goal
use Rattle.vic_sets.proofs.cells.add_back.Goals.{then-is_in+then-not-is_in+in_ok-add, else-is_in, else-is_in-via-then-is_in+else-not-is_in, else-is_in-via-else-is_in}

pub add-requires : goal.add-requires
add-requires c u i h =
    let same : u ≡ c.uid-item.result = eqb-true u c.uid-item.result (sym (c.of_uid-mask.ensures.alone u i) ∙ h) in
    ap (in_cells c.loop-uid.left) same ∙ (sym c.is_in-then-is_in.ensures ∙ c.if-not-is_in.true)

pub loop-uid-preserved : goal.loop-uid-preserved
loop-uid-preserved c =
    let uids = c.args.uids.now in
    let n = c.loop-uid.uid-index in
    let x = c.uid-item.result in
    let before = in_cells c.args.left.now in
    let cells = in_cells c.args.cells.now in
    let more : (u : ℕ) → has (take (n + 1) uids) u ≡ (has (take n uids) u || (u == x)) = λ u. list_any_more (nat_eq u) uids n x c.loop-uid-test.true ∙ ap (λ y. has (take n uids) u || (u == y)) (sym c.uid-item.is) in
    elim c.if-is_in.branch [
      | then-is_in+then-not-is_in+in_ok-add w ↦ rw w.left-is (λ u i. w.in_ok-add.ensures u i ∙ rw (c.loop-uid.invariant u i, w.of_uid-mask.ensures.alone u i, more u) (next_added (before u) (cells u) (has (take n uids) u) (u == x) (λ e. ap cells (eqb-true u x e) ∙ sym c.is_in.ensures ∙ w.if-is_in.true)))
      | else-is_in w ↦ rw w.left-is (λ u i. c.loop-uid.invariant u i ∙ rw (more u) (next_there (before u) (cells u) (has (take n uids) u) (u == x) (λ e there. elim w.else-is_in.branch [
        | else-is_in-via-then-is_in+else-not-is_in w' ↦ sym (c.loop-uid.invariant u i) ∙ ap (in_cells c.loop-uid.left) (eqb-true u x e) ∙ (sym w'.is_in-then-is_in.ensures ∙ w'.if-not-is_in.false)
        | else-is_in-via-else-is_in w' ↦ absurd (cc (sym there ∙ ap cells (eqb-true u x e) ∙ sym c.is_in.ensures, w'.if-is_in.false))
      ])))
    ]
