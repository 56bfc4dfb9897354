use Rattle.std.proofs.Common.{slice_index}
use Rattle.vic_walk.proofs.CutLaws.{AreMovedTo}
use Rattle.vic_walk.proofs.log_parts.move_steps.Given as goal

abbrev pub invariant-loop-index : goal.invariant-loop-index
invariant-loop-index l = AreMovedTo (λ p. slice_index l.ranks p) l.fn.steps.items l.index l.steps.items
