use Rattle.vic_table.proofs.Words.{arith, common_steps}
use Rattle.vic_table.proofs.Cutting.{is_none-found}
use Rattle.vic_table.proofs.lines.lacks.Goals as goal

pub returns : goal.returns
returns c = grind (arith, common_steps, is_none-found c.args.line.now c.args.byte c.find_byte.result c.find_byte.ensures)
