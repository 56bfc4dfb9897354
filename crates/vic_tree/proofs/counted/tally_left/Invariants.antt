use Rattle.vic_tree.proofs.Words.{◌≡◌, ℕ, ◌+◌, ◌-◌, ◌^◌, false, List, AreAll, BitMask, IsOpenBelow, IsTallyOf, PassFrom, is_left}
use Rattle.vic_tree.proofs.counted.tally_left.Given as goal

abbrev pub invariant-loop-run : goal.invariant-loop-run
invariant-loop-run l = record {
  pass : PassFrom (is_left l.fn.ranges l.removed) l.left;
  cut : (k : ℕ) → k + 1 ≡ l.left.0 → is_left l.fn.ranges l.removed k ≡ false;
  told : (all : List BitMask) × AreAll (IsOpenBelow (is_left l.fn.ranges l.removed) l.left.0) all × IsTallyOf all l.tally;
}

abbrev pub decreases-loop-run : goal.decreases-loop-run
decreases-loop-run l = 2 ^ 56 + 1 - l.left.0
