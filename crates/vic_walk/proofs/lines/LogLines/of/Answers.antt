use Rattle.vic_walk.proofs.LineLaws.{first_lines}
use Rattle.vic_walk.proofs.lines.LogLines.of.Goals as goal

pub invariant_of-result : goal.invariant_of-result
invariant_of-result c = first_lines _ _ c.lines.ensures.log

pub returns-clause-log : goal.returns-clause-log
returns-clause-log c = first_lines _ _ (rw c.lines.ensures.value at c.lines.ensures.log)
