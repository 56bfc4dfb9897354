use Rattle.std.proofs.Common.{◌≡◌, ◌<◌, ℕ, length, slice_index}
use Rattle.vic_walk.specs.inner.Gathered.{StandsAt}
use Rattle.vic_walk.proofs.ordering.ranks_in.Given as goal

abbrev pub invariant-loop-border : goal.invariant-loop-border
invariant-loop-border l = record {
  count : length l.ranks.items ≡ l.border-index;
  stand : (k : ℕ) → k < l.border-index → StandsAt l.parts (slice_index l.borders k) (slice_index l.ranks.items k);
}
