use Rattle.std.proofs.lemmas.Str.{is_utf8-from_IsUtf8, IsUtf8-from_is_utf8}
use Rattle.vic_table.proofs.Words.{arith, common_steps, false_from_ne_true}
use Rattle.vic_table.proofs.lines.is_utf8.Goals as goal

pub returns : goal.returns
returns c = grind (arith, common_steps, is_utf8-from_IsUtf8, IsUtf8-from_is_utf8, false_from_ne_true)
