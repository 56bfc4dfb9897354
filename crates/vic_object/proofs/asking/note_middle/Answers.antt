use Rattle.vic_object.proofs.Within.{middle_more}
use Rattle.vic_object.proofs.asking.note_middle.Goals as goal

pub returns-in_ok-push-in-Collision : goal.returns-in_ok-push-in-Collision
returns-in_ok-push-in-Collision c m is short =
    rw (c.in_ok-push-in-Collision.ensures.items, c.in-Collision.is, c.in-Some.is, c.middle_of.ensures.value)
    (middle_more m c.in-Some.mask c.args.middles.now.items is c.middle_of.ensures.is_mask short)
