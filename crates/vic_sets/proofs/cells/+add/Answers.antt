use Rattle.vic_sets.proofs.Words.{◌≡◌, ◌∙◌, ◌-◌, ◌||◌, not, Contains, List, filter, refl, sym, ap, subst, arith, rules, BitMask, AreCells, IsApart, cut_at, filter_same, in_cells, lies_in}
use Rattle.vic_sets.proofs.CellLaws.{same_mask, not_found, pushed_cells, merged}
use Rattle.vic_sets.proofs.cells.+add.Goals as goal
use Rattle.vic_sets.proofs.cells.+add.Goals.{then-len-gt0+else-contains, else-len-gt0}

pub invariant_of-cells : goal.invariant_of-cells
invariant_of-cells t c =
    let xs = c.cells.inside.list.items in
    let m = c.args.cell in
    let s = c.flipped-other.result in
    let kept : c.retain.new.self.items ≡ filter (λ x. not (same_mask x s)) xs = filter_same _ (λ x. not (same_mask x s)) _ (λ x b f' k. search rules) _ _ c.retain.ensures.filtered in
    let both = merged s m (cut_at (m.len - 1) m) xs _ kept (omega arith) c.len.ensures.cell.0 (rw c.len-then-len-gt0.ensures.value at c.flipped-other.ensures) refl (rw c.as_slice.ensures.value at (sym c.contains.ensures.value ∙ c.if-contains.true)) c.cells.invariant (subst (IsApart m) (sym c.cells.view_is) c.requires) in
    both.cells

pub add-requires : goal.add-requires
add-requires t c =
    let xs = c.cells.inside.list.items in
    let m = c.args.cell in
    let s = c.flipped-other.result in
    let kept : c.retain.new.self.items ≡ filter (λ x. not (same_mask x s)) xs = filter_same _ (λ x. not (same_mask x s)) _ (λ x b f' k. search rules) _ _ c.retain.ensures.filtered in
    let both = merged s m (cut_at (m.len - 1) m) xs _ kept (omega arith) c.len.ensures.cell.0 (rw c.len-then-len-gt0.ensures.value at c.flipped-other.ensures) refl (rw c.as_slice.ensures.value at (sym c.contains.ensures.value ∙ c.if-contains.true)) c.cells.invariant (subst (IsApart m) (sym c.cells.view_is) c.requires) in
    (omega (arith, ap (λ (x : BitMask). x.len) c.widened.ensures), rw c.widened.ensures both.apart)

pub returns-then-contains : goal.returns-then-contains
returns-then-contains t c u i =
    let xs = c.cells.inside.list.items in
    let m = c.args.cell in
    let s = c.flipped-other.result in
    let kept : c.retain.new.self.items ≡ filter (λ x. not (same_mask x s)) xs = filter_same _ (λ x. not (same_mask x s)) _ (λ x b f' k. search rules) _ _ c.retain.ensures.filtered in
    let both = merged s m (cut_at (m.len - 1) m) xs _ kept (omega arith) c.len.ensures.cell.0 (rw c.len-then-len-gt0.ensures.value at c.flipped-other.ensures) refl (rw c.as_slice.ensures.value at (sym c.contains.ensures.value ∙ c.if-contains.true)) c.cells.invariant (subst (IsApart m) (sym c.cells.view_is) c.requires) in
    c.in_ok-add.ensures u i ∙ rw c.widened.ensures (both.same u i) ∙ ap (λ (cs : List BitMask). in_cells cs u || lies_in m u) c.cells.view_is

pub invariant_of-cells-2 : goal.invariant_of-cells-2
invariant_of-cells-2 t c = subst AreCells (sym c.in_ok-push.ensures.items) (pushed_cells c.cells-2.inside.list.items c.args.cell c.cells-2.invariant c.len.ensures.cell (subst (IsApart c.args.cell) (sym c.cells-2.view_is) c.requires) (λ pos. elim c.if-len-gt0.branch [
  | then-len-gt0+else-contains w ↦ λ there.
      let xs = w.cells.inside.list.items in
      let same : c.cells-2.inside.list.items ≡ xs = c.cells-2.view_is ∙ sym w.cells.view_is in
      not_found xs w.flipped-other.result (rw w.as_slice.ensures.value at (sym w.contains.ensures.value ∙ w.if-contains.false)) (subst (Contains xs) (sym (rw w.len-then-len-gt0.ensures.value at w.flipped-other.ensures)) (rw same at there))
  | else-len-gt0 w ↦ λ there. absurd (omega arith)
]))
