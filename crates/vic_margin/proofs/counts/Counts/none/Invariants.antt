use Rattle.vic_margin.proofs.Words.{◌≡◌, ◌*◌, ◌-◌, ◌^◌, ◌≤◌}
use Rattle.vic_margin.proofs.counts.Counts.none.Given as goal

abbrev pub invariant-loop-leaves : goal.invariant-loop-leaves
invariant-loop-leaves l = record {
  half : l.leaves * 2 ≡ 2 ^ l.levels;
  some : 1 ≤ l.leaves;
  few : l.leaves ≤ 2 ^ 57;
}

abbrev pub decreases-loop-leaves : goal.decreases-loop-leaves
decreases-loop-leaves l = l.count - l.leaves
