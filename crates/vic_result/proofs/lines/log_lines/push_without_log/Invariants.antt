use Rattle.vic_result.proofs.Words.{◌≡◌, ◌++◌, flat_map, take, map}
use Rattle.vic_result.specs.ResultLines.{without_log_lines}
use Rattle.vic_result.proofs.lines.log_lines.push_without_log.Given as goal

abbrev pub invariant-loop-place : goal.invariant-loop-place
invariant-loop-place l = l.text.items ≡ l.fn.text.items ++ flat_map without_log_lines (map (λ place. place.now) (take l.place-index l.places))
