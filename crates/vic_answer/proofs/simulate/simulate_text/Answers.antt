use Rattle.vic_answer.proofs.Words.{rules}
use Rattle.vic_answer.proofs.simulate.simulate_text.Goals as goal

pub returns-in-Ok : goal.returns-in-Ok
returns-in-Ok c = let right = c.in_ok-simulated.ensures c.args.text.now c.in_ok-read.ensures in search rules
