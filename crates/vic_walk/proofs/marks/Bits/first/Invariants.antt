use Rattle.vic_walk.specs.Marked.{NoneBetween}
use Rattle.vic_walk.specs.inner.Bits.{is_set}
use Rattle.std.proofs.Common.{◌*◌}
use Rattle.vic_walk.proofs.marks.Bits.first.Given as goal

abbrev pub invariant-loop-at : goal.invariant-loop-at
invariant-loop-at l = NoneBetween (is_set l.self) l.from (l.at * 64)
