use Rattle.vic_log.specs.Order.{entries}
use Rattle.vic_margin.proofs.Places.{same_parts}
use Rattle.vic_margin.proofs.weakest.weakest_by_keys.Goals as goal

pub returns-clause-weakest : goal.returns-clause-weakest
returns-clause-weakest c us named = rw c.in_ok-margins.ensures.log at (c.in_ok-weakest.ensures us named)

pub returns-clause-parts : goal.returns-clause-parts
returns-clause-parts c = same_parts (entries c.args.log.now.lines) c.args.log_parts _ c.in_ok-margins.ensures.parts c.in_ok-margins.ensures.steps c.requires.parts
