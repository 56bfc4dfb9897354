use Rattle.std.proofs.Common.{ℕ, ◌+◌, ◌<◌, slice_index}
use Rattle.vic_walk.proofs.ordering.are_borders.Given as goal

abbrev pub invariant-loop-index : goal.invariant-loop-index
invariant-loop-index l = (k : ℕ) → k + 1 < l.index → slice_index l.numbers k < slice_index l.numbers (k + 1)
