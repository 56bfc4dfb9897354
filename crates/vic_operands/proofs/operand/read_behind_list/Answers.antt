use Rattle.std.proofs.Common.{◌∙◌}
use Rattle.vic_operands.proofs.ListLaws.{behind_log}
use Rattle.vic_operands.proofs.operand.read_behind_list.Goals as goal

pub returns-in_ok-survey_of-in_default : goal.returns-in_ok-survey_of-in_default
returns-in_ok-survey_of-in_default c =
    let is = behind_log c.args.text.now (λ e. c.in_default.not-Surveys (c.kind_behind_list.ensures ∙ e)) in
    rw is (tt, c.in_ok-survey_of-in_default.ensures)
