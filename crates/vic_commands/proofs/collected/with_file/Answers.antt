use Rattle.std.proofs.Common.{◌++◌, ◌∷◌, []}
use Rattle.std.proofs.lemmas.Result.{IfOk-weaker}
use Rattle.vic_commands.proofs.CollectedLaws.{more_files}
use Rattle.vic_commands.proofs.collected.with_file.Goals as goal

pub returns : goal.returns
returns c =
    IfOk-weaker c.add.result _ _ (λ more h names texts taken. (
      taken.0 ++ record { name = c.args.name.now; text = c.args.text.items } ∷ [],
      more_files names texts c.args.name.now c.args.text.items taken.0 taken.1,
      h taken.0 taken.2,
    )) c.add.ensures
