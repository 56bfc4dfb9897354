use Rattle.std.proofs.Common.{refl}
use Rattle.vic_walk.proofs.BitLaws.{noted_emptied, noted_left}
use Rattle.vic_walk.proofs.marks.NotedBits.clear.Goals as goal

pub invariant_of-self : goal.invariant_of-self
invariant_of-self c =
    let bits = c.clear.ensures in
    let notes = c.clear-then-clear.ensures in
    noted_emptied _ _ _ _ _ bits.cleared (c.if-clear.ensures.empty refl) notes.cleared bits.size notes.size c.self.invariant

pub invariant_of-self-else-clear : goal.invariant_of-self-else-clear
invariant_of-self-else-clear c = noted_left _ _ _ _ c.clear.ensures.cleared (c.if-clear.ensures.left refl) c.clear.ensures.size c.self.invariant
