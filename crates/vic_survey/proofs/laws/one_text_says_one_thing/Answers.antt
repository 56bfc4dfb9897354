use Rattle.vic_survey.proofs.Wrong.{one_text}
use Rattle.vic_survey.proofs.laws.one_text_says_one_thing.Goals as goal

pub returns : goal.returns
returns c = one_text
