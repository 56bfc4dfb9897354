use Rattle.vic_walk.proofs.LineLaws.{log_front}
use Rattle.vic_walk.proofs.lines.LogLines.prefix.Goals as goal

pub invariant_of-result : goal.invariant_of-result
invariant_of-result c = log_front c.args.count _ c.self.invariant
