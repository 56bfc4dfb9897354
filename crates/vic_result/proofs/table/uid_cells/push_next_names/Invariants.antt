use Rattle.vic_result.proofs.Words.{◌≡◌, ◌++◌, codes, drop, flat_map}
use Rattle.vic_result.specs.NamesAt.{names_at}
use Rattle.vic_result.proofs.table.uid_cells.push_next_names.Given as goal

abbrev pub invariant-loop-log : goal.invariant-loop-log
invariant-loop-log l = l.text.items ++ flat_map (λ name. codes "; " ++ name) (names_at l.surveys (drop l.log-index l.logs)) ≡ l.fn.text.items ++ flat_map (λ name. codes "; " ++ name) (names_at l.surveys l.logs)
