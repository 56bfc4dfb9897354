use Rattle.vic_sets.proofs.Words.{◌&&◌, not, take, lies_in, SameUids, in_cells}
use Rattle.vic_sets.proofs.cells.outside.Given as goal

abbrev pub invariant-loop-cell : goal.invariant-loop-cell
invariant-loop-cell l = SameUids (in_cells l.left) (λ u. in_cells (take l.cell-index l.cell-items) u && not (lies_in l.mask u))
