use Rattle.std.proofs.Common.{◌≡◌, ◌++◌, map, take}
use Rattle.vic_object.specs.declared.finding.FindingTold.TheVariants.{Doubtful}
use Rattle.vic_object.proofs.finding.add_doubtful.Given as goal

abbrev pub invariant-loop-uid : goal.invariant-loop-uid
invariant-loop-uid l = l.found.items ≡ l.fn.found.items ++ map Doubtful (take l.uid-index l.doubtful)
