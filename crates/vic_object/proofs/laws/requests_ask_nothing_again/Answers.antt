use Rattle.vic_object.proofs.AskingLaws.{asked_new}
use Rattle.vic_object.proofs.laws.requests_ask_nothing_again.Goals as goal

pub returns : goal.returns
returns c lines f a told of = asked_new lines f a told of
