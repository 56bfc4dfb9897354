use Rattle.vic_walk.proofs.Words.{◌≡◌, ℕ, ◌&&◌, has, is_marked, length, nat_lt, not, slice_index}
use Rattle.vic_walk.specs.inner.Unmet.{is_open_before}
use Rattle.vic_walk.proofs.lacking.open_before.Given as goal

abbrev pub invariant-loop-part : goal.invariant-loop-part
invariant-loop-part l = record {
  room : length l.open.ready ≡ length l.ends;
  ready : (p : ℕ) → is_marked l.open.ready p ≡ (nat_lt p l.part && (is_open_before l.position (slice_index l.ends p) && is_marked l.states.ready p));
  quiet : (p : ℕ) → has l.open.quiet.items p ≡ (nat_lt p l.part && (is_open_before l.position (slice_index l.ends p) && not (is_marked l.states.ready p)));
}
