use Rattle.vic_result.proofs.Words.{◌≡◌, ◌≤◌, drop, length}
use Rattle.vic_result.specs.LeastMargin.{least_margin}
use Rattle.vic_result.proofs.object.margins.least_margin.Given as goal

abbrev pub invariant-loop-index : goal.invariant-loop-index
invariant-loop-index l = (l.least ≡ least_margin l.index (drop l.index l.surveys)) × (l.index ≤ length l.surveys)

abbrev pub decreases-loop-index : goal.decreases-loop-index
decreases-loop-index l = l.index
