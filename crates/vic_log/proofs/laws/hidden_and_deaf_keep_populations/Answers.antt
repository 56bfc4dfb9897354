use Rattle.vic_log.proofs.Cautious.{given_hidden, given_deaf}
use Rattle.vic_log.proofs.laws.hidden_and_deaf_keep_populations.Goals as goal

pub returns : goal.returns
returns c = record { hidden = given_hidden; deaf = given_deaf }
