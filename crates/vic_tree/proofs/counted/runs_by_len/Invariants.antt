use Rattle.vic_tree.proofs.Words.{◌-◌, ◌+◌, ◌^◌, PassFrom, is_left}
use Rattle.vic_tree.proofs.counted.runs_by_len.Given as goal

abbrev pub invariant-loop-run : goal.invariant-loop-run
invariant-loop-run l = PassFrom (is_left l.fn.ranges l.removed) l.left

abbrev pub decreases-loop-run : goal.decreases-loop-run
decreases-loop-run l = 2 ^ 56 + 1 - l.left.0
