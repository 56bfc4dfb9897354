use Rattle.vic_tree.proofs.Words.{◌≡◌, ℕ, ◌+◌, ◌-◌, ◌<◌, ◌≤◌, ◌⊎◌, true, length, has, BitMask, mirror, IsPast, IsFreeFrom}
use Rattle.vic_tree.proofs.spaced_keys.SpacedKeys.pass.Given as goal

abbrev pub invariant-loop-at : goal.invariant-loop-at
invariant-loop-at l = record {
  from : l.from ≤ l.free;
  past : (m : BitMask) → IsFreeFrom l.self l.from m → mirror m.value < l.free → IsPast 17 l.kept.items m;
  cut : (k : ℕ) → k + 1 ≡ l.free → (l.free ≡ l.from) ⊎ (has l.self k ≡ true);
}

abbrev pub decreases-loop-at : goal.decreases-loop-at
decreases-loop-at l = length l.self-inside.stretches.items - l.at
