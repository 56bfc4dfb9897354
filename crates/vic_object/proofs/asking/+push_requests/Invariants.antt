use Rattle.std.proofs.Common.{◌≡◌, ◌-◌, ◌++◌, List}
use Rattle.vic_log.specs.declared.entry.Entry.{Entry}
use Rattle.vic_object.specs.Asking.{asks_in, of_slots}
use Rattle.vic_object.specs.inner.Collided.{AreCollided}
use Rattle.vic_object.proofs.asking.+push_requests.Given as goal

abbrev pub decreases-push_requests : goal.decreases-push_requests
decreases-push_requests l = l.times

abbrev pub invariant-loop-k : goal.invariant-loop-k
invariant-loop-k l = (es : List Entry) → AreCollided es l.collided → l.requests.items ≡ l.fn.requests.items ++ of_slots (asks_in es (l.times - 1) l.link) l.mask l.k
