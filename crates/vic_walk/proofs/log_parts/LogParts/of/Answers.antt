use Rattle.vic_walk.proofs.CutLaws.{log_parts}
use Rattle.vic_walk.proofs.log_parts.LogParts.of.Goals as goal

pub returns : goal.returns
returns c =
    let got = c.in_ok-borders.ensures in
    let order = c.in_ok-parts.ensures in
    let size = c.move_steps.ensures.size in
    log_parts _ _ order.borders (rw size got.list) (rw size got.within) (c.move_steps.ensures.moved _ _ _ (rw c.deref.ensures.value order.moved) got.placed)
