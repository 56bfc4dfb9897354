use Rattle.vic_verdict.proofs.Words.{◌≡◌, ◌++◌, drop, chosen, chosen_population, flat_map}
use Rattle.vic_verdict.proofs.explanation.choose.Given as goal

abbrev pub invariant-loop-slot : goal.invariant-loop-slot
invariant-loop-slot l =
    l.uids.items ++ flat_map (chosen l.avoid) (drop l.slot-index l.slot-items) ≡ chosen_population l.avoid l.fn.met
