use Rattle.vic_tree.proofs.Words.{◌≡◌, ℕ, ◌+◌, ◌-◌, ◌^◌, ◌≤◌, ◌↔◌, false, Contains, BitMask, IsOpenBelow, PassFrom, is_left}
use Rattle.vic_tree.proofs.open_masks.open_masks_up_to.Given as goal

abbrev pub invariant-loop-run : goal.invariant-loop-run
invariant-loop-run l = record {
  pass : PassFrom (is_left l.fn.ranges l.removed) l.left;
  cut : (k : ℕ) → k + 1 ≡ l.left.0 → is_left l.fn.ranges l.removed k ≡ false;
  members : (m : BitMask) → IsOpenBelow (is_left l.fn.ranges l.removed) l.left.0 m × (m.len ≤ l.most) ↔ Contains l.masks.items m;
}

abbrev pub decreases-loop-run : goal.decreases-loop-run
decreases-loop-run l = 2 ^ 56 + 1 - l.left.0
