use Rattle.vic_result.proofs.Words.{◌≡◌, ◌++◌, flat_map, take}
use Rattle.vic_result.specs.ResultLines.{misplaced_lines}
use Rattle.vic_result.proofs.lines.uid_lines.push_misplaced.Given as goal

abbrev pub invariant-loop-found : goal.invariant-loop-found
invariant-loop-found l = l.text.items ≡ l.fn.text.items ++ flat_map (misplaced_lines l.collection) (take l.found-index l.misplaced)
