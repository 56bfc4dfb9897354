use Rattle.std.proofs.Common.{sym}
use Rattle.vic_operands.proofs.operand.surveys_in.Goals as goal

pub returns-in-Ok : goal.returns-in-Ok
returns-in-Ok c = (c.in-Ok.ensures.valid, sym c.in-Ok.ensures.found)
