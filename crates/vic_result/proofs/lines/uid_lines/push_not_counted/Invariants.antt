use Rattle.vic_result.proofs.Words.{◌≡◌, ◌++◌, flat_map, take}
use Rattle.vic_result.specs.ResultLines.{not_counted_lines}
use Rattle.vic_result.proofs.lines.uid_lines.push_not_counted.Given as goal

abbrev pub invariant-loop-found : goal.invariant-loop-found
invariant-loop-found l = l.text.items ≡ l.fn.text.items ++ flat_map (not_counted_lines l.collection) (take l.found-index l.not_counted)
