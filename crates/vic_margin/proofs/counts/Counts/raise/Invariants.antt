use Rattle.vic_margin.proofs.Words.{◌-◌}
use Rattle.vic_margin.proofs.Trees.{IsOnWay}
use Rattle.vic_margin.proofs.counts.Counts.raise.Given as goal

abbrev pub invariant-loop-low : goal.invariant-loop-low
invariant-loop-low l = IsOnWay l.fn.self.levels l.initial.low l.initial.high l.low l.high l.fn.self.nodes.items l.nodes.items

abbrev pub decreases-loop-low : goal.decreases-loop-low
decreases-loop-low l = l.high - l.low
