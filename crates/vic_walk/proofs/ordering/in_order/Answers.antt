use Rattle.std.proofs.Common.{refl, ◌≡◌}
use Rattle.vic_walk.proofs.PartLaws.{are_borders}
use Rattle.vic_walk.proofs.ordering.in_order.Goals as goal

pub returns-then-have_ranks-clause-moved : goal.returns-then-have_ranks-clause-moved
returns-then-have_ranks-clause-moved c =
    let moved = rw (c.deref-then-are_borders.ensures.value, c.deref-then-are_borders-2.ensures.value, c.deref-then-are_borders-3.ensures.value) at (c.if-have_ranks.ensures refl) in
    rw (c.between.ensures, ← c.into_borders-borders.ensures.value) moved

pub between-parts-requires : goal.between-parts-requires
between-parts-requires c =
    let copied : c.extend_from_slice.new.self.items ≡ c.into_borders-borders.result.items = rw (c.in_ok-extend_from_slice.ensures.items, c.new-copied.ensures.items, c.deref-3.ensures.value) refl in
    are_borders c.into_borders-borders.result.items _ c.sorted.ensures.rising (rw copied at c.sorted.ensures.same) (rw copied at c.sorted.ensures.borders) c.into_borders-borders.ensures.gathered

pub ranks_in-requires : goal.ranks_in-requires
ranks_in-requires c b there =
    let copied : c.extend_from_slice.new.self.items ≡ c.into_borders-borders.result.items = rw (c.in_ok-extend_from_slice.ensures.items, c.new-copied.ensures.items, c.deref-3.ensures.value) refl in
    rw c.between-parts.ensures (rw copied at c.sorted.ensures.same b (rw c.deref-4.ensures.value at there))

pub returns-clause-moved : goal.returns-clause-moved
returns-clause-moved c = rw (← c.into_borders-borders.ensures.value) (rw c.deref-4.ensures.value at c.in_ok-ranks.ensures)
