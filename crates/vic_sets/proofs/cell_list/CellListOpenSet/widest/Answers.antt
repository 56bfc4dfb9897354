use Rattle.vic_sets.proofs.Words.{rules}
use Rattle.vic_sets.proofs.Covered.{widest_cell}
use Rattle.vic_sets.proofs.cell_list.CellListOpenSet.widest.Goals as goal

pub returns-clause-found : goal.returns-clause-found
returns-clause-found c = rw c.cell.view_is (widest_cell c.args.self.now c.in_ok-cell.cell.now (search rules) (search rules) (search rules))
