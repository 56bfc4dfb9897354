use Rattle.std.proofs.Common.{ℕ, ◌<◌, slice_index}
use Rattle.vic_walk.specs.inner.Gathered.{StandsAt}
use Rattle.vic_walk.proofs.ordering.have_ranks.Given as goal

abbrev pub invariant-loop-index : goal.invariant-loop-index
invariant-loop-index l = (k : ℕ) → k < l.index → StandsAt l.ranked (slice_index l.borders k) (slice_index l.ranks k)
