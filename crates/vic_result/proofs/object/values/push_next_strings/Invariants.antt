use Rattle.vic_result.proofs.Words.{◌≡◌, ◌++◌, codes, drop, flat_map, map}
use Rattle.vic_text.specs.Json.{json_string}
use Rattle.vic_result.proofs.object.values.push_next_strings.Given as goal

abbrev pub invariant-loop-value : goal.invariant-loop-value
invariant-loop-value l = l.text.items ++ flat_map (λ v. codes "," ++ v) (map json_string (map (λ v. v.now) (drop l.value-index l.values))) ≡ l.fn.text.items ++ flat_map (λ v. codes "," ++ v) (map json_string (map (λ v. v.now) l.values))
