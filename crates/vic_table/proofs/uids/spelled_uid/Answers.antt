use Rattle.vic_table.proofs.Words.{arith, common_steps}
use Rattle.vic_table.proofs.HexDigits.{filter_past}
use Rattle.vic_table.proofs.uids.spelled_uid.Goals as goal

pub returns-then-is_err : goal.returns-then-is_err
returns-then-is_err c = grind (arith, common_steps, filter_past c.args.cell.now c.loop-byte.byte-index)
