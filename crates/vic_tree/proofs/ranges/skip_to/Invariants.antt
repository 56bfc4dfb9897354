use Rattle.vic_tree.proofs.Words.{length, get_or, ℕ, ◌≤◌, ◌<◌}
use Rattle.vic_tree.proofs.RangeLaws.{AreRestFrom}
use Rattle.vic_tree.proofs.ranges.skip_to.Given as goal

abbrev pub invariant-loop-i : goal.invariant-loop-i
invariant-loop-i l = (i : ℕ) (d : ℕ × ℕ) → i < l.i → (get_or l.ranges i d).1 < l.key

abbrev pub invariant-loop-step : goal.invariant-loop-step
invariant-loop-step l = record {
  step : 1 ≤ l.step;
  shorter : length l.ahead ≤ length l.ranges;
  rest : AreRestFrom l.key l.ranges l.ahead;
}

abbrev pub decreases-loop-step : goal.decreases-loop-step
decreases-loop-step l = length l.ahead
