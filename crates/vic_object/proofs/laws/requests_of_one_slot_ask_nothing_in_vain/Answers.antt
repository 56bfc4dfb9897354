use Rattle.vic_object.proofs.AskingLaws.{asked_hopeful}
use Rattle.vic_object.proofs.laws.requests_of_one_slot_ask_nothing_in_vain.Goals as goal

pub returns : goal.returns
returns c lines f a told of = asked_hopeful lines f a told of
