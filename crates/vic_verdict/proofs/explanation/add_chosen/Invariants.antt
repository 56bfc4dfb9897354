use Rattle.vic_verdict.proofs.Words.{◌≡◌, ◌++◌, take, drop, filter, is_other, chosen}
use Rattle.vic_verdict.proofs.explanation.add_chosen.Given as goal

abbrev pub invariant-loop-uid : goal.invariant-loop-uid
invariant-loop-uid l =
    l.uids.items ++ take l.left (filter (is_other l.avoid) (drop l.uid-index l.uid-items)) ≡ l.fn.uids.items ++ chosen l.avoid l.slot
