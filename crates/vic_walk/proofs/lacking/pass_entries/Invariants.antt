use Rattle.vic_walk.proofs.Words.{◌≡◌, ℕ, Bool, AreStatesAt, length, part_count}
use Rattle.vic_log.specs.Order.{entries}
use Rattle.vic_walk.proofs.lacking.pass_entries.Given as goal

abbrev pub invariant-loop-index : goal.invariant-loop-index
invariant-loop-index l = record {
  room : length l.states.ready ≡ part_count l.log_parts.parts;
  states : (set : ℕ → Bool) → AreStatesAt l.log_parts.parts (entries l.lines) set l.from l.fn.states → AreStatesAt l.log_parts.parts (entries l.lines) set l.index l.states;
}
