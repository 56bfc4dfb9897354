use Rattle.vic_result.proofs.Words.{◌≡◌, ◌++◌, flat_map, take}
use Rattle.vic_result.specs.ResultLines.{unlisted_lines}
use Rattle.vic_result.proofs.lines.uid_lines.push_unlisted.Given as goal

abbrev pub invariant-loop-found : goal.invariant-loop-found
invariant-loop-found l = l.text.items ≡ l.fn.text.items ++ flat_map (unlisted_lines l.collection) (take l.found-index l.unlisted)
