use Rattle.vic_survey.proofs.RisingLaws.{certain_push}
use Rattle.vic_survey.proofs.rising.CertainUids.push.Goals as goal

pub invariant_of-self-2 : goal.invariant_of-self-2
invariant_of-self-2 c = rw c.in_ok-push.ensures.items (certain_push c.self.inside.uids.items c.args.one c.self.invariant (rw (← c.self.view_is) at c.requires.above) c.requires.uid c.requires.line)
