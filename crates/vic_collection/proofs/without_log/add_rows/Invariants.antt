use Rattle.vic_collection.proofs.Words.{map, take}
use Rattle.vic_collection.specs.inner.Without.{AreAdded}
use Rattle.vic_collection.proofs.without_log.add_rows.Given as goal

abbrev pub invariant-loop-index : goal.invariant-loop-index
invariant-loop-index l = AreAdded l.fn.known l.known (map (λ place. place.now) l.fn.without.items) (map (λ place. place.now) l.without.items) (map (λ row. row.place) (take l.index l.rows))
