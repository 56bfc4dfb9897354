use Rattle.std.proofs.Common.{rules}
use Rattle.vic_operands.proofs.operand.survey_of.Goals as goal

pub returns : goal.returns
returns c = (c.in_ok-of.field-0, search rules, c.in_ok-of.ensures.name, c.in_ok-of.ensures.field)
