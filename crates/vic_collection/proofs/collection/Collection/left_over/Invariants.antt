use Rattle.vic_collection.proofs.Words.{◌≡◌, take}
use Rattle.vic_collection.specs.Collections.{positions_from}
use Rattle.vic_collection.specs.Joins.{is_left_over}
use Rattle.vic_collection.proofs.collection.Collection.left_over.Given as goal

abbrev pub invariant-loop-index : goal.invariant-loop-index
invariant-loop-index l = l.logs.items ≡ positions_from (is_left_over l.self) 0 (take l.index l.self.surveys)
