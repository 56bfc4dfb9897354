use Rattle.vic_tree.proofs.Words.{◌+◌, ◌<◌, ◌≤◌, ◌⊎◌, BitMask, IsMaximalIn, Adds}
use Rattle.vic_tree.proofs.open_masks.push_in_run.Given as goal

abbrev pub invariant-loop-len : goal.invariant-loop-len
invariant-loop-len l = record {
  adds : Adds (λ m. IsMaximalIn l.run.0 l.run.1 m × (m.len < l.len)) l.initial.masks.items l.masks.items;
  most : (l.len ≤ l.most + 1) ⊎ ((m : BitMask) → IsMaximalIn l.run.0 l.run.1 m → m.len < l.len → ⊥);
}
