use Rattle.vic_walk.proofs.BitLaws.{noted_with}
use Rattle.vic_walk.proofs.marks.NotedBits.set.Goals as goal

pub invariant_of-self : goal.invariant_of-self
invariant_of-self c = noted_with _ _ _ _ _ c.set.ensures.set c.set-2.ensures.set c.set.ensures.size c.set-2.ensures.size c.self.invariant
