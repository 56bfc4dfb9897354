use Rattle.std.proofs.Common.{◌≡◌, ◌++◌, map, take}
use Rattle.vic_object.specs.declared.finding.FindingTold.TheVariants.{Unlisted}
use Rattle.vic_object.proofs.finding.add_unlisted.Given as goal

abbrev pub invariant-loop-shown : goal.invariant-loop-shown
invariant-loop-shown l = l.found.items ≡ l.fn.found.items ++ map Unlisted (take l.shown-index l.unlisted)
