use Rattle.vic_walk.proofs.Words.{slice_index}
use Rattle.vic_tree.specs.Gathering.{Gathers}
use Rattle.vic_walk.specs.inner.PartUids.{HasKey}
use Rattle.vic_walk.proofs.three.gather_part.Given as goal

abbrev pub invariant-loop-key : goal.invariant-loop-key
invariant-loop-key l = Gathers (HasKey (slice_index l.parts l.part) l.key) l.initial.found.items l.found.items
