use Rattle.vic_log.proofs.Cautious.{hidden_same, deaf_same, deaf_of_hidden}
use Rattle.vic_log.proofs.laws.hidden_and_deaf_may_be_the_same.Goals as goal

pub returns : goal.returns
returns c = record { hidden = hidden_same; deaf = deaf_same; both = deaf_of_hidden }
