use Rattle.vic_result.proofs.Words.{◌≡◌, ◌++◌, flat_map, take}
use Rattle.vic_result.specs.NamesAt.{names_at}
use Rattle.vic_result.specs.ResultLines.{left_over_lines}
use Rattle.vic_result.proofs.lines.log_lines.push_left_over.Given as goal

abbrev pub invariant-loop-log : goal.invariant-loop-log
invariant-loop-log l = l.text.items ≡ l.fn.text.items ++ flat_map left_over_lines (names_at l.surveys (take l.log-index l.logs))
