use Rattle.std.proofs.Common.{◌-◌}
use Rattle.vic_walk.specs.inner.Searching.{IsBetween}
use Rattle.vic_walk.proofs.parts.Parts.search.Given as goal

abbrev pub invariant-loop-low : goal.invariant-loop-low
invariant-loop-low l = IsBetween l.self l.key l.low l.high

abbrev pub decreases-loop-low : goal.decreases-loop-low
decreases-loop-low l = l.high - l.low
