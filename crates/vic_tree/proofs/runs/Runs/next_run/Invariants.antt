use Rattle.vic_tree.proofs.Words.{◌≡◌, ℕ, ◌<◌, ◌≤◌, Bool, false, length, AreRanges, PassFrom}
use Rattle.vic_tree.proofs.runs.Runs.next_run.Given as goal

abbrev pub invariant-loop-range : goal.invariant-loop-range
invariant-loop-range l = record {
  from : l.fn.self.0 ≤ l.self-inside.from;
  none : (p : ℕ → Bool) → PassFrom p l.fn.self → (k : ℕ) → l.fn.self.0 ≤ k → k < l.self-inside.from → p k ≡ false;
  same : (p : ℕ → Bool) → PassFrom p l.fn.self → PassFrom p (l.self-inside.from, l.self-inside.ranges.now, l.self-inside.removed);
  ranges : AreRanges l.self-inside.ranges.now;
}

abbrev pub decreases-loop-range : goal.decreases-loop-range
decreases-loop-range l = length l.self-inside.ranges.now
