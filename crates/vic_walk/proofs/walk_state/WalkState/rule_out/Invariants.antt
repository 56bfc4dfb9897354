use Rattle.vic_walk.proofs.Words.{◌-◌}
use Rattle.vic_walk.proofs.Ruling.{IsRuledOutTo}
use Rattle.vic_walk.proofs.walk_state.WalkState.rule_out.Given as goal

abbrev pub invariant-loop-part : goal.invariant-loop-part
invariant-loop-part l = IsRuledOutTo l.fn.self l.self l.span l.from l.end l.lost

abbrev pub decreases-loop-part : goal.decreases-loop-part
decreases-loop-part l = l.span.to - l.from
