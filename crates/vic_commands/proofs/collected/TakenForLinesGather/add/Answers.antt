use Rattle.std.proofs.Common.{◌++◌, ◌∷◌, []}
use Rattle.vic_commands.proofs.CollectedLaws.{more_files}
use Rattle.vic_commands.proofs.collected.TakenForLinesGather.add.Goals as goal

pub returns : goal.returns
returns c names texts taken = (
  taken.0 ++ record { name = c.args.name.now; text = c.args.text.items } ∷ [],
  more_files names texts c.args.name.now c.args.text.items taken.0 taken.1,
  c.in_ok-operands.ensures taken.0 taken.2,
)
