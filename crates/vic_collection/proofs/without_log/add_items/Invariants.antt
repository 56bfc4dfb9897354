use Rattle.vic_collection.proofs.Words.{map, take}
use Rattle.std.specs.List.{flat_map}
use Rattle.vic_collection.specs.Joins.{place_if_expected}
use Rattle.vic_collection.specs.inner.Without.{AreAdded}
use Rattle.vic_collection.proofs.without_log.add_items.Given as goal

abbrev pub invariant-loop-index : goal.invariant-loop-index
invariant-loop-index l = AreAdded l.fn.known l.known (map (λ place. place.now) l.fn.without.items) (map (λ place. place.now) l.without.items) (flat_map place_if_expected (take l.index l.catalogue.items))
