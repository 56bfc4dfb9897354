use Rattle.std.proofs.lemmas.Result.{IfOk-weaker}
use Rattle.vic_operands.proofs.Alone.{usage_alone-to_reconcile}
use Rattle.vic_operands.specs.Lists.{IsGatheredToReconcile}
use Rattle.vic_commands.proofs.CollectedLaws.{collected-output}
use Rattle.vic_commands.proofs.collected.TakenForLinesGather.finish.Goals as goal
use Rattle.vic_commands.specs.declared.collected.Form.TheVariants.{Lines}

pub returns : goal.returns
returns c =
    IfOk-weaker c.output_of_gathered.result _ _ (λ output h names texts taken.
    collected-output IsGatheredToReconcile usage_alone-to_reconcile Lines names texts taken.0 c.in_ok-gathered.gathered output taken.1 (c.in_ok-gathered.ensures taken.0 taken.2) h) c.output_of_gathered.ensures
