use Rattle.vic_sets.proofs.Words.{◌≡◌, ℕ, ◌≤◌, ◌||◌, take, has, open_at, height, IsUid, IsReduced}
use Rattle.vic_sets.proofs.mask_tree.MaskTreeOpenSet.settle.Given as goal

abbrev pub invariant-loop-uid : goal.invariant-loop-uid
invariant-loop-uid l = record {
  reduced : IsReduced l.root;
  low : height l.root ≤ 56;
  opened : (u : ℕ) → IsUid u → open_at l.root u ≡ (has (take l.uid-index l.uid-items) u || open_at l.initial.root u);
}
