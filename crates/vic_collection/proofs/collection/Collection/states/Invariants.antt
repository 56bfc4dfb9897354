use Rattle.vic_collection.proofs.Words.{◌≡◌, map, take}
use Rattle.vic_collection.specs.States.{state_of}
use Rattle.vic_collection.proofs.collection.Collection.states.Given as goal

abbrev pub invariant-loop-index : goal.invariant-loop-index
invariant-loop-index l = l.states.items ≡ map (state_of l.self) (take l.index l.self.catalogue.items)
