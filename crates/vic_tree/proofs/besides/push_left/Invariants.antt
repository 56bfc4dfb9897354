use Rattle.vic_tree.proofs.Words.{◌≡◌, ◌++◌, ℕ, List, ◌+◌, ◌-◌, ◌^◌, PassFrom, is_left}
use Rattle.vic_tree.proofs.RangeLaws.{AreRunsTo}
use Rattle.vic_tree.proofs.besides.push_left.Given as goal

abbrev pub invariant-loop-run : goal.invariant-loop-run
invariant-loop-run l = record {
  pass : PassFrom (is_left l.fn.ranges l.removed) l.left;
  runs : (rs : List (ℕ × ℕ)) × (l.out.items ≡ l.initial.out.items ++ rs) × AreRunsTo (is_left l.fn.ranges l.removed) l.left.0 rs;
}

abbrev pub decreases-loop-run : goal.decreases-loop-run
decreases-loop-run l = 2 ^ 56 + 1 - l.left.0
