use Rattle.vic_survey.proofs.RisingLaws.{open_push}
use Rattle.vic_survey.proofs.rising.RisingMasks.push.Goals as goal

pub invariant_of-self-2 : goal.invariant_of-self-2
invariant_of-self-2 c = rw c.in_ok-push.ensures.items (open_push c.self.inside.masks.items c.args.mask c.self.invariant (rw (← c.self.view_is) at c.requires.behind) c.requires.short)
