use Rattle.vic_table.proofs.Words.{◌≡◌, false, take, list_any}
use Rattle.vic_table.specs.Columns.{is_of_result}
use Rattle.vic_table.proofs.columns.any_is_of_result.Given as goal

abbrev pub invariant-loop-index : goal.invariant-loop-index
invariant-loop-index l = list_any is_of_result (take l.index l.cells) ≡ false
