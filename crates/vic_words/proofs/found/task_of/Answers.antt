use Rattle.std.proofs.Common.{◌≡◌, codes, option_map, string_bytes, rules, subst, sym}
use Rattle.std.proofs.lemmas.Result.{IfErr-weaker}
use Rattle.clap.specs.Words.{first_of, found_of, rows_of}
use Rattle.vic_words.specs.inner.Found.{FileAsks}
use Rattle.vic_words.proofs.Asking.{other_command}
use Rattle.vic_words.proofs.found.task_of.Goals as goal

pub returns-in_ok-operand-in_default-clause-usage :
    goal.returns-in_ok-operand-in_default-clause-usage
returns-in_ok-operand-in_default-clause-usage c =
    let file : option_map string_bytes c.in_ok-operand-in_default.field-0 ≡ first_of (codes "file") (rows_of (found_of c.args.given.now)) = search rules in
    IfErr-weaker c.file_task_of.result _ _ (λ e h u task asks.
    h task (subst (λ f. FileAsks c.args.name.now f task) (sym file) (other_command c.args.name.now (rows_of (found_of c.args.given.now)) task c.in_default.not-frame c.in_default.not-spell asks))) c.file_task_of.ensures.usage
