use Rattle.vic_tree.proofs.Words.{◌+◌, ◌-◌, ◌^◌, PassFrom, is_left, IsFoundBelow}
use Rattle.vic_tree.proofs.besides.widest_left.Given as goal

abbrev pub invariant-loop-run : goal.invariant-loop-run
invariant-loop-run l = record {
  pass : PassFrom (is_left l.fn.ranges l.removed) l.left;
  found : IsFoundBelow (is_left l.fn.ranges l.removed) l.left.0 l.widest;
}

abbrev pub decreases-loop-run : goal.decreases-loop-run
decreases-loop-run l = 2 ^ 56 + 1 - l.left.0
