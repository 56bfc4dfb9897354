use Rattle.vic_walk.proofs.Words.{◌≡◌, ◌-◌, AreStatesAt, is_open, length, slots_before}
use Rattle.vic_log.specs.Order.{entries}
use Rattle.vic_walk.specs.inner.Unmet.{AreLacking}
use Rattle.vic_walk.proofs.lacking.Candidates.lacking_before.Given as goal

abbrev pub invariant-loop-slot : goal.invariant-loop-slot
invariant-loop-slot l = record {
  states : AreStatesAt l.log_parts.parts (entries l.lines) (is_open (slots_before (entries l.lines) l.position)) l.at l.open;
  room : length l.lacking ≡ l.position;
  lacking : AreLacking (entries l.lines) l.self.slots l.position l.at l.lacking;
}

abbrev pub decreases-loop-slot : goal.decreases-loop-slot
decreases-loop-slot l = l.end - l.at
