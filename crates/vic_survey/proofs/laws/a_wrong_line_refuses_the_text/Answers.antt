use Rattle.vic_survey.proofs.Wrong.{wrong_is_none}
use Rattle.vic_survey.proofs.laws.a_wrong_line_refuses_the_text.Goals as goal

pub returns : goal.returns
returns c = wrong_is_none
