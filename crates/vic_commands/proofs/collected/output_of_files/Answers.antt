use Rattle.std.proofs.lemmas.Result.{IfOk-weaker}
use Rattle.vic_operands.proofs.Alone.{usage_alone}
use Rattle.vic_operands.specs.Gathered.{IsGathered}
use Rattle.vic_commands.proofs.CollectedLaws.{collected-output}
use Rattle.vic_commands.proofs.collected.output_of_files.Goals as goal

pub returns : goal.returns
returns c =
    IfOk-weaker c.output_of_gathered.result _ _ (λ output h names texts taken.
    collected-output IsGathered usage_alone c.args.form names texts taken.0 c.in_ok-gathered.gathered output taken.1 (c.in_ok-gathered.ensures taken.0 taken.2) h) c.output_of_gathered.ensures
