use Rattle.std.proofs.Common.{◌≡◌, map, take}
use Rattle.vic_object.proofs.finding.add_absent.Given as goal

abbrev pub invariant-loop-shown : goal.invariant-loop-shown
invariant-loop-shown l = l.uids.items ≡ map (λ s. s.uid) (take l.shown-index l.absent)
