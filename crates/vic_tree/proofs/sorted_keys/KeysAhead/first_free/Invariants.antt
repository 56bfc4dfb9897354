use Rattle.vic_tree.proofs.Words.{◌≡◌, ℕ, ◌<◌, ◌≤◌, true, length, IsNonDecreasing, has, AreKeys}
use Rattle.vic_tree.proofs.sorted_keys.KeysAhead.first_free.Given as goal

abbrev pub invariant-loop-key : goal.invariant-loop-key
invariant-loop-key l = record {
  from : l.from ≤ l.free;
  before : (k : ℕ) → l.from ≤ k → k < l.free → has l.fn.self k ≡ true;
  same : (k : ℕ) → l.free ≤ k → has l.self-inside.keys.now k ≡ has l.fn.self k;
  keys : AreKeys l.self-inside.keys.now;
  order : IsNonDecreasing l.self-inside.keys.now;
}

abbrev pub decreases-loop-key : goal.decreases-loop-key
decreases-loop-key l = length l.self-inside.keys.now
