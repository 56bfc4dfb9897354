use Rattle.vic_walk.proofs.Words.{◌≡◌, ◌+◌, ◌-◌, ◌<◌, ◌≤◌, ℕ, false, is_marked}
use Rattle.vic_log.specs.Order.{entries}
use Rattle.vic_walk.specs.Met.{AreMetBefore, IsMetAt}
use Rattle.vic_walk.specs.inner.Unmet.{AreCandidates}
use Rattle.vic_walk.proofs.lacking.first_lack.Given as goal

abbrev pub invariant-loop-met : goal.invariant-loop-met
invariant-loop-met l = record {
  least : l.met ≤ l.most;
  upto : l.most ≤ l.upto;
  low : l.met < l.most → l.met < l.middle;
  high : l.middle ≤ l.most;
  candidates : AreCandidates l.log_parts.parts (entries l.lines) l.candidates;
  others : (k : ℕ) → k ≤ l.most → k < l.upto → is_marked l.candidates.slots k ≡ false → IsMetAt (entries l.lines) (l.most + 1) k;
  met : AreMetBefore (entries l.lines) l.met;
  lack : l.most < l.upto → AreMetBefore (entries l.lines) (l.most + 1) → ⊥;
}

abbrev pub decreases-loop-met : goal.decreases-loop-met
decreases-loop-met l = l.most - l.met
