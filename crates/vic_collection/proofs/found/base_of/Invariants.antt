use Rattle.vic_collection.proofs.Words.{◌≡◌, ◌≤◌, drop, take}
use Rattle.vic_collection.specs.Found.{base_of}
use Rattle.vic_collection.proofs.found.base_of.Given as goal

abbrev pub invariant-loop-index : goal.invariant-loop-index
invariant-loop-index l = record {
  low : l.start ≤ l.index;
  base : drop l.start (take l.index l.name) ≡ base_of (take l.index l.name);
}
