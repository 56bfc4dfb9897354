use Rattle.vic_result.proofs.Words.{◌≡◌, ◌++◌, drop, flat_map}
use Rattle.vic_result.specs.ResultObject.{count_json}
use Rattle.vic_result.specs.StateNames.{state_name}
use Rattle.vic_result.proofs.object.counts.push_each_count.Given as goal

abbrev pub invariant-loop-kind : goal.invariant-loop-kind
invariant-loop-kind l = l.text.items ++ flat_map (λ kind. count_json l.states (state_name kind)) (drop l.kind-index l.kinds) ≡ l.fn.text.items ++ flat_map (λ kind. count_json l.states (state_name kind)) l.kinds
