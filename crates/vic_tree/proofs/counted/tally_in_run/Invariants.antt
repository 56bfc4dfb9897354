use Rattle.vic_tree.proofs.Words.{◌<◌, ◌≤◌, IsMaximalIn, Tallies}
use Rattle.vic_tree.proofs.counted.tally_in_run.Given as goal

abbrev pub invariant-loop-len : goal.invariant-loop-len
invariant-loop-len l = record {
  tallies : Tallies (λ m. IsMaximalIn l.run.0 l.run.1 m × (m.len < l.len)) l.fn.before l.tally;
  most : l.len ≤ 57;
}
