use Rattle.vic_tree.proofs.Words.{take}
use Rattle.vic_tree.proofs.SetLaws.{HasOutside}
use Rattle.vic_tree.proofs.outside.uids_outside.Given as goal

abbrev pub invariant-loop-i : goal.invariant-loop-i
invariant-loop-i g l = HasOutside (g.S.OpenSet.is_open l.set) (take l.i l.keys) l.outside.items
