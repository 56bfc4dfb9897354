use Rattle.std.proofs.Common.{◌≡◌, refl, rules}
use Rattle.vic_operands.proofs.KeptLaws.{kept_surveys}
use Rattle.vic_operands.proofs.operand.read_operand.Goals as goal
use Rattle.vic_operands.specs.Kinds.{kind_of}
use Rattle.vic_operands.specs.declared.kind.Kind.TheVariants.{Log, Surveys}

pub returns-in_ok-surveys_in-in-Surveys : goal.returns-in_ok-surveys_in-in-Surveys
returns-in_ok-surveys_in-in-Surveys c =
    let is : kind_of c.args.text.items ≡ Surveys = search rules in
    let found = rw c.as_slice-in-Surveys.ensures.value at c.in_ok-surveys_in-in-Surveys.ensures in
    kept_surveys (record { name = c.args.name; text = c.args.text.items }) Surveys _ is refl (_, found.0, found.1) found

pub returns-in_ok-survey_of-in-Log : goal.returns-in_ok-survey_of-in-Log
returns-in_ok-survey_of-in-Log c =
    let is : kind_of c.args.text.items ≡ Log = search rules in
    let found = rw c.as_slice-in-Log.ensures.value at c.in_ok-survey_of-in-Log.ensures in
    kept_surveys (record { name = c.args.name; text = c.args.text.items }) Log _ is refl tt found
