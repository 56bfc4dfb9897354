use Rattle.vic_sets.proofs.Words.{◌&&◌, ◌||◌, take, has, SameUids, in_cells}
use Rattle.vic_sets.proofs.cells.add_back.Given as goal

abbrev pub invariant-loop-uid : goal.invariant-loop-uid
invariant-loop-uid l = SameUids (in_cells l.left) (λ u. in_cells l.initial.left u || (in_cells l.cells u && has (take l.uid-index l.uids) u))
