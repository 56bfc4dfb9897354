use Rattle.std.proofs.Common.{◌≡◌, List}
use Rattle.vic_log.specs.declared.entry.Entry.{Entry}
use Rattle.vic_object.specs.Asking.{has_collided_below}
use Rattle.vic_object.specs.inner.Collided.{AreCollided}
use Rattle.vic_object.proofs.asking.has_collided_below.Given as goal

abbrev pub invariant-loop-k : goal.invariant-loop-k
invariant-loop-k l = (es : List Entry) → AreCollided es l.collided → l.found ≡ has_collided_below es l.mask l.k
