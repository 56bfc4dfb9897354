use Rattle.vic_object.proofs.AskingLaws.{asked_open}
use Rattle.vic_object.proofs.laws.requests_ask_only_open_uids.Goals as goal

pub returns : goal.returns
returns c lines f a possible told of = asked_open lines f a possible told of
