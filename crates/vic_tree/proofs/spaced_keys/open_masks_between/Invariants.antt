use Rattle.vic_tree.proofs.Words.{◌≡◌, ℕ, ◌+◌, ◌-◌, ◌^◌, false, AreKept, IsOpenBelow, AreFirst, PassFrom, is_left}
use Rattle.vic_tree.proofs.spaced_keys.open_masks_between.Given as goal

abbrev pub invariant-loop-run : goal.invariant-loop-run
invariant-loop-run l = record {
  pass : PassFrom (is_left l.fn.ranges l.removed) l.left;
  cut : (k : ℕ) → k + 1 ≡ l.left.0 → is_left l.fn.ranges l.removed k ≡ false;
  kept : AreKept l.kept.items;
  first : AreFirst 17 (IsOpenBelow (is_left l.fn.ranges l.removed) l.left.0) l.kept.items;
}

abbrev pub decreases-loop-run : goal.decreases-loop-run
decreases-loop-run l = 2 ^ 56 + 1 - l.left.0
