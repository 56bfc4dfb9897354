use Rattle.vic_collection.specs.inner.FoundItems.{AreAllIn}
use Rattle.vic_collection.proofs.collection.Collection.all_in.Given as goal

abbrev pub invariant-loop-item : goal.invariant-loop-item
invariant-loop-item l = AreAllIn l.self l.state l.item l.found.items
