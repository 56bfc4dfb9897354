use Rattle.vic_tree.proofs.Words.{take, SameUids, is_outside}
use Rattle.vic_tree.proofs.open_set.OpenSet.without.Given as goal

abbrev pub invariant-loop-range : goal.invariant-loop-range
invariant-loop-range g l = SameUids (g.Self.OpenSet.is_open l.set) (is_outside (take l.range-index l.fn.closed.items))
