use Rattle.vic_walk.proofs.PartLaws.{gathered_first}
use Rattle.vic_walk.proofs.gathered.Gathered.new.Goals as goal

pub invariant_of-result : goal.invariant_of-result
invariant_of-result c = rw (c.in_ok-push-2.ensures.items, c.in_ok-push.ensures.items, c.new-borders.ensures.items) gathered_first
