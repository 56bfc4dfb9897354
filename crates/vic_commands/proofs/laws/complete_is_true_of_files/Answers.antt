use Rattle.vic_commands.proofs.CompleteLaws.{collected, reconciled}
use Rattle.vic_commands.proofs.laws.complete_is_true_of_files.Goals as goal
use Rattle.vic_commands.specs.declared.collected.Form.TheVariants as form

pub returns : goal.returns
returns c =
    let one_text = c.one_text_says_one_thing.ensures in
    let is_true = c.complete_is_true.ensures in
    record {
      collection = collected one_text is_true form.Table;
      json_collection = collected one_text is_true form.Object;
      reconcile = reconciled one_text is_true;
    }
