use Rattle.std.proofs.Common.{◌-◌}
use Rattle.vic_guess.proofs.waiting.Waiting.rule_out.Given as goal

abbrev pub decreases-loop-part : goal.decreases-loop-part
decreases-loop-part l = l.mask.to - l.from
