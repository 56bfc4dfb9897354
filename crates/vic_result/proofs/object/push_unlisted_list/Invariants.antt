use Rattle.vic_result.proofs.Words.{◌≡◌, ◌++◌, map, take}
use Rattle.vic_text.specs.Json.{comma_joined}
use Rattle.vic_result.specs.ResultObject.{unlisted_json}
use Rattle.vic_result.proofs.object.push_unlisted_list.Given as goal

abbrev pub invariant-loop-index : goal.invariant-loop-index
invariant-loop-index l = l.text.items ≡ l.fn.text.items ++ comma_joined (map (unlisted_json l.collection) (take l.index l.unlisted))
