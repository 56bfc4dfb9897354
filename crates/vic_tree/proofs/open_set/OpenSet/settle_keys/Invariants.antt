use Rattle.vic_tree.proofs.Words.{◌+◌, ◌-◌, ◌&&◌, ◌≤◌, not, nat_le, nat_lt, mirror, SameUids}
use Rattle.vic_tree.proofs.open_set.OpenSet.settle_keys.Given as goal

abbrev pub invariant-loop-from : goal.invariant-loop-from
invariant-loop-from g l = record {
  left : SameUids (g.Self.OpenSet.is_open l.self) (λ u. g.Self.OpenSet.is_open l.initial.self u && not (nat_le l.range.0 (mirror u) && nat_lt (mirror u) l.from));
  low : l.range.0 ≤ l.from;
  high : l.from ≤ l.range.1 + 1;
}

abbrev pub decreases-loop-from : goal.decreases-loop-from
decreases-loop-from g l = l.range.1 + 1 - l.from
