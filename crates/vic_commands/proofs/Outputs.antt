-- What is output of texts that have a name each.
use Rattle.std.proofs.Common.{◌≡◌, ℕ, List, length}
use Rattle.vic_answer.specs.declared.status.Status.{Status}
use Rattle.vic_commands.specs.Commands.{IsOutputBy, OfNamed}
use Rattle.vic_commands.specs.declared.commands.Output.{Output}
use Rattle.vic_commands.specs.declared.commands.Output.TheVariants.{Answer, Usage}

pub output-named : (P : List (List ℕ) → List (List ℕ) → List ℕ → Status → Type 0) (names texts : List (List ℕ)) (output : Output) → length names ≡ length texts
    → IsOutputBy (P names texts) output → IsOutputBy (OfNamed P names texts) output
output-named P names texts (Answer w) same h = (same, h)
output-named P names texts Usage same h = λ answer status w. h answer status w.1
