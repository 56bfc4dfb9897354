use Rattle.vic_tree.proofs.Words.{take, SameUids, without_keys}
use Rattle.vic_tree.proofs.open_set.OpenSet.widest_besides.Given as goal

abbrev pub invariant-loop-key : goal.invariant-loop-key
invariant-loop-key g l = SameUids (g.Self.OpenSet.is_open l.set) (without_keys (g.Self.OpenSet.is_open l.fn.self) (take l.key-index l.keys))
