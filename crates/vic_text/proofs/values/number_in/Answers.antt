use Rattle.std.proofs.Common.{sym}
use Rattle.vic_text.proofs.ValueLaws.{number_not_text}
use Rattle.vic_text.proofs.values.number_in.Goals as goal

pub returns-in-Err : goal.returns-in-Err
returns-in-Err c = sym (number_not_text c.args.digits.now c.in-Err.ensures.cases.0)
