use Rattle.vic_walk.proofs.Words.{AreBorders, Bool, [], ◌-◌, ◌≤◌, ℕ}
use Rattle.vic_tree.specs.Gathering.{Gathers}
use Rattle.vic_walk.proofs.PartUids.{IsBefore}
use Rattle.vic_walk.specs.inner.PartUids.{AreUidsOf}
use Rattle.vic_walk.proofs.three.up_to_three.Given as goal

abbrev pub invariant-loop-part : goal.invariant-loop-part
invariant-loop-part l = record {
  low : l.span.from ≤ l.from;
  found : (test : ℕ → Bool) → AreBorders l.parts → AreUidsOf l.parts l.marks l.span test → Gathers (IsBefore l.parts test l.from) [] l.found.items;
}

abbrev pub decreases-loop-part : goal.decreases-loop-part
decreases-loop-part l = l.span.to - l.from
