use Rattle.std.proofs.Common.{◌≡◌, ◌++◌, drop, codes}
use Rattle.std.specs.List.{flat_map}
use Rattle.vic_text.proofs.json.push_behind_commas.Given as goal

abbrev pub invariant-loop-value : goal.invariant-loop-value
invariant-loop-value g l =
    l.text.items ++ flat_map (λ x. codes "," ++ g.T.ToJson.json_of x) (drop l.value-index l.values)
    ≡ l.fn.text.items ++ flat_map (λ x. codes "," ++ g.T.ToJson.json_of x) l.values
