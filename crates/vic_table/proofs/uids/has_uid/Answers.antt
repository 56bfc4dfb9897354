use Rattle.vic_table.proofs.Words.{arith, common_steps, take_all}
use Rattle.vic_table.proofs.HexDigits.{hex_uid-len, has_uid-last, has_uid-next}
use Rattle.vic_table.proofs.uids.has_uid.Goals as goal

pub returns-then-is_some : goal.returns-then-is_some
returns-then-is_some c = grind (arith, common_steps, has_uid-last, has_uid-next, take_all)

pub returns-then-len-rest : goal.returns-then-len-rest
returns-then-len-rest c = grind (arith, common_steps, has_uid-last, hex_uid-len, take_all)

pub loop-rest-preserved : goal.loop-rest-preserved
loop-rest-preserved c = grind (arith, common_steps, has_uid-next, hex_uid-len, take_all)
