use Rattle.vic_tree.proofs.Words.{◌<◌, ◌≤◌, AreKept, IsMaximalIn, Keeps}
use Rattle.vic_tree.proofs.open_masks.keep_in_run.Given as goal

abbrev pub invariant-loop-len : goal.invariant-loop-len
invariant-loop-len l = record {
  keeps : Keeps (λ m. IsMaximalIn l.run.0 l.run.1 m × (m.len < l.len)) l.initial.kept.items l.kept.items;
  kept : AreKept l.kept.items;
  most : l.len ≤ 57;
}
