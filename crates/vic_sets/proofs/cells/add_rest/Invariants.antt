use Rattle.vic_sets.proofs.Words.{◌&&◌, ◌||◌, not, lies_in, SameUids, in_cells, cut_at}
use Rattle.vic_sets.proofs.cells.add_rest.Given as goal

abbrev pub invariant-loop-len : goal.invariant-loop-len
invariant-loop-len l = SameUids (in_cells l.cells) (λ u. in_cells l.initial.cells u || (lies_in l.cell u && not (lies_in (cut_at l.len l.inner) u)))
