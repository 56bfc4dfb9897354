use Rattle.vic_collection.proofs.Words.{◌≡◌, ◌≤◌, take}
use Rattle.vic_collection.specs.Found.{before_ending}
use Rattle.vic_collection.proofs.found.stem_of.Given as goal

abbrev pub invariant-loop-index : goal.invariant-loop-index
invariant-loop-index l = record {
  low : l.end ≤ l.index;
  front : take l.end l.name ≡ before_ending (take l.index l.name);
}
