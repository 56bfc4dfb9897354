use Rattle.vic_walk.proofs.Words.{◌≡◌, ◌≤◌, ℕ, false, slice_get}
use Rattle.vic_log.specs.Order.{entries}
use Rattle.vic_walk.specs.Answers.{is_unread}
use Rattle.vic_walk.proofs.answers.after_unread.Given as goal

abbrev pub invariant-loop-after : goal.invariant-loop-after
invariant-loop-after l = record {
  within : l.after ≤ l.list;
  read : (i : ℕ) → l.after ≤ i → is_unread (slice_get (entries l.lines) i) ≡ false;
}

abbrev pub decreases-loop-after : goal.decreases-loop-after
decreases-loop-after l = l.after
