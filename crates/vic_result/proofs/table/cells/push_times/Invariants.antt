use Rattle.vic_result.proofs.Words.{◌≡◌, ◌++◌, replicate}
use Rattle.vic_result.proofs.table.cells.push_times.Given as goal

abbrev pub invariant-loop : goal.invariant-loop
invariant-loop l = l.text.items ≡ l.fn.text.items ++ replicate l.counter l.byte
