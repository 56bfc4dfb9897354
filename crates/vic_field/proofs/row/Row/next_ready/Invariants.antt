use Rattle.vic_field.proofs.Words.{◌≡◌, ◌-◌, ◌≤◌, ◌<◌, ℕ, true, length, is_quiet_position}
use Rattle.vic_field.proofs.row.Row.next_ready.Given as goal

abbrev pub invariant-loop-position : goal.invariant-loop-position
invariant-loop-position l = record {
  low : l.from ≤ l.position;
  quiet : (k : ℕ) → l.from ≤ k → k < l.position → is_quiet_position l.self.quiet k ≡ true;
}

abbrev pub decreases-loop-position : goal.decreases-loop-position
decreases-loop-position l = length l.self.keys.items - l.position
