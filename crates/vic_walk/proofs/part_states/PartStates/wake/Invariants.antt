use Rattle.std.proofs.Common.{◌≡◌, ℕ, ◌||◌, length, take}
use Rattle.vic_walk.proofs.Words.{has, is_marked}
use Rattle.vic_walk.proofs.part_states.PartStates.wake.Given as goal

abbrev pub invariant-loop-quiet : goal.invariant-loop-quiet
invariant-loop-quiet l = record {
  marked : (p : ℕ) → is_marked l.self.1.0 p ≡ (is_marked l.fn.self.ready p || has (take l.quiet-index l.fn.self.quiet.items) p);
  room : length l.self.1.0 ≡ length l.fn.self.ready;
}
