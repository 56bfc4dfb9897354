use Rattle.vic_walk.proofs.PartKeys.{ranges_to_pushed}
use Rattle.vic_walk.proofs.part_keys.push_keys.Goals as goal

pub returns-in_ok-push-clause-ranges : goal.returns-in_ok-push-clause-ranges
returns-in_ok-push-clause-ranges c forward h =
    rw (c.in_ok-push.ensures.items, c.new.ensures) (ranges_to_pushed c.args.from c.args.end _ c.if-from-end.true c.requires h)
