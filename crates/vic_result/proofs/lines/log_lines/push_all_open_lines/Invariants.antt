use Rattle.vic_result.proofs.Words.{◌≡◌, ◌++◌, drop}
use Rattle.vic_result.specs.ResultLines.{all_open_lines}
use Rattle.vic_result.proofs.lines.log_lines.push_all_open_lines.Given as goal

abbrev pub invariant-loop-index : goal.invariant-loop-index
invariant-loop-index l = l.text.items ++ all_open_lines (drop l.index l.surveys) (drop l.index l.masks) ≡ l.fn.text.items ++ all_open_lines l.surveys l.masks
