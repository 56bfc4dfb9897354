use Rattle.vic_margin.proofs.Words.{◌-◌, length}
use Rattle.vic_margin.proofs.Turning.{IsWokenTo}
use Rattle.vic_margin.proofs.tally.Tally.wake.Given as goal

abbrev pub invariant-loop-part : goal.invariant-loop-part
invariant-loop-part l = IsWokenTo l.fn.self l.self l.from

abbrev pub decreases-loop-part : goal.decreases-loop-part
decreases-loop-part l = length l.fn.self.rest.items - l.from
