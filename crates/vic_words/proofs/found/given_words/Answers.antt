use Rattle.std.proofs.Common.{arith}
use Rattle.std.proofs.lemmas.Grind.{common_steps}
use Rattle.clap.proofs.WalkLemmas.{raw_values-rows}
use Rattle.vic_words.proofs.found.given_words.Goals as goal

pub returns-in-Some : goal.returns-in-Some
returns-in-Some c = grind (arith, common_steps, raw_values-rows)

pub returns-in-None : goal.returns-in-None
returns-in-None c = grind (arith, common_steps, raw_values-rows)
