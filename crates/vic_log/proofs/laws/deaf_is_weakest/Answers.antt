use Rattle.vic_log.proofs.Cautious.{hidden_weaker, deaf_weaker}
use Rattle.vic_log.proofs.laws.deaf_is_weakest.Goals as goal

pub returns : goal.returns
returns c = record { hidden = hidden_weaker; deaf = deaf_weaker }
