use Rattle.vic_log.proofs.Cautious.{deaf_behind, deaf_before, deaf_never, deaf_others}
use Rattle.vic_log.proofs.laws.deaf_behind_the_last_answer.Goals as goal

pub returns : goal.returns
returns c = record { behind = deaf_behind; before = deaf_before; never = deaf_never; others = deaf_others }
