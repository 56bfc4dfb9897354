-- What is written for files, by what they are together.
use Rattle.std.specs.Prelude.{◌≡◌}
use Rattle.vic_operands.specs.declared.gathered.Gathered.{Gathered}
use Rattle.vic_operands.specs.declared.gathered.Gathered.TheVariants as gathered
use Rattle.vic_commands.specs.Collected.{IsWrittenBy}
use Rattle.vic_commands.specs.declared.collected.Form.{Form}
use Rattle.vic_commands.specs.declared.commands.Output.{Output}
use Rattle.vic_commands.specs.declared.commands.Output.TheVariants.{Answer, Usage}

-- what is written of them; nothing where they are no operands
abbrev pub IsOutputOf : Form → Gathered → Output → Type 0
IsOutputOf form g (Answer w) = IsWrittenBy form g w.text.items w.status
IsOutputOf form g Usage = g ≡ gathered.Usage
