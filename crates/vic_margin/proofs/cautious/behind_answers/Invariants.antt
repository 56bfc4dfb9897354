use Rattle.vic_margin.proofs.Words.{◌≡◌, ℕ, ◌≤◌, false, Some, length, slice_get, Entry}
use Rattle.vic_log.specs.Deaf.{is_answer}
use Rattle.vic_log.specs.Order.{entries}
use Rattle.vic_margin.proofs.cautious.behind_answers.Given as goal

abbrev pub invariant-loop-behind : goal.invariant-loop-behind
invariant-loop-behind l = record {
  within : l.behind ≤ length l.lines;
  none : (j : ℕ) (e : Entry) → l.behind ≤ j → slice_get (entries l.lines) j ≡ Some e → is_answer e ≡ false;
}

abbrev pub decreases-loop-behind : goal.decreases-loop-behind
decreases-loop-behind l = l.behind
