use Rattle.std.proofs.Common.{arith}
use Rattle.vic_walk.proofs.PartLaws.{border_at, last_border}
use Rattle.vic_walk.proofs.ordering.rank_in.Goals as goal

pub returns-then-border : goal.returns-then-border
returns-then-border c = border_at _ _ _ c.count-count.ensures.borders c.requires (rw c.new.ensures at c.at.ensures)

pub returns-else-border : goal.returns-else-border
returns-else-border c = last_border _ _ _ c.count-count.ensures.borders c.requires (omega (arith, c.if-border.false)) c.count-count.ensures.count
