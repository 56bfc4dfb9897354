use Rattle.vic_margin.proofs.Words.{◌≡◌, ◌+◌, ◌-◌, ◌≤◌}
use Rattle.vic_margin.specs.inner.Trees.{sum_up}
use Rattle.vic_margin.proofs.counts.Counts.at.Given as goal

abbrev pub invariant-loop-level : goal.invariant-loop-level
invariant-loop-level l = record {
  upto : l.node ≤ l.self.leaves + l.place;
  sum : l.sum + sum_up l.self.nodes.items (l.self.levels - l._level) l.node ≡ sum_up l.self.nodes.items l.self.levels (l.self.leaves + l.place);
}
