use Rattle.vic_sets.proofs.cells.+add.Given as goal

abbrev pub decreases-add : goal.decreases-add
decreases-add l = l.cell.len
