use Rattle.std.proofs.Common.{arith}
use Rattle.std.proofs.lemmas.Grind.{common_steps}
use Rattle.clap.proofs.WalkLemmas.{first_value-rows}
use Rattle.vic_words.proofs.found.operand.Goals as goal

pub returns-in_ok-from_str-in-Some : goal.returns-in_ok-from_str-in-Some
returns-in_ok-from_str-in-Some c = grind (arith, common_steps, first_value-rows)

pub returns-in-None : goal.returns-in-None
returns-in-None c = grind (arith, common_steps, first_value-rows)
