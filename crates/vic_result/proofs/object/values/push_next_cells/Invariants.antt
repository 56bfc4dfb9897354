use Rattle.vic_result.proofs.Words.{◌≡◌, ◌++◌, codes, drop, flat_map, map}
use Rattle.vic_text.specs.Json.{json_string}
use Rattle.vic_result.proofs.object.values.push_next_cells.Given as goal

abbrev pub invariant-loop-index : goal.invariant-loop-index
invariant-loop-index l = l.text.items ++ flat_map (λ v. codes "," ++ v) (map json_string (drop l.index l.cells)) ≡ l.fn.text.items ++ flat_map (λ v. codes "," ++ v) (map json_string (drop 1 l.cells))
