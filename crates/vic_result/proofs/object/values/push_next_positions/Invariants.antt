use Rattle.vic_result.proofs.Words.{◌≡◌, ◌++◌, codes, decimal, drop, flat_map, map}
use Rattle.vic_result.proofs.object.values.push_next_positions.Given as goal

abbrev pub invariant-loop-log : goal.invariant-loop-log
invariant-loop-log l = l.text.items ++ flat_map (λ v. codes "," ++ v) (map decimal (drop l.log-index l.logs)) ≡ l.fn.text.items ++ flat_map (λ v. codes "," ++ v) (map decimal l.logs)
