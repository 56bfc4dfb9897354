use Rattle.vic_result.proofs.Words.{◌≡◌, ◌++◌, ◌∷◌, drop}
use Rattle.vic_table.specs.Cells.{quote}
use Rattle.vic_result.specs.ResultCells.{doubled}
use Rattle.vic_result.proofs.table.cells.push_quoted.Given as goal

abbrev pub invariant-loop-byte : goal.invariant-loop-byte
invariant-loop-byte l = l.text.items ++ doubled (drop l.byte-index l.cell) ≡ l.fn.text.items ++ quote ∷ doubled l.cell
