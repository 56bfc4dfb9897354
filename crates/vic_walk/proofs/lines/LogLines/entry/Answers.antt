use Rattle.vic_walk.proofs.Words.{◌<◌, length, refl, slice_get_read, arith}
use Rattle.vic_walk.proofs.LineLaws.{entry_at, number_above}
use Rattle.vic_walk.proofs.lines.LogLines.entry.Goals as goal
use Rattle.vic_walk.proofs.lines.LogLines.entry.Goals.{After-item_of}

within : (c : After-item_of) → c.args.at < length c.self.inside.lines.now
within c = rw c.self.view_is c.requires

pub returns-clause-here : goal.returns-clause-here
returns-clause-here c = rw (← c.self.view_is, c.item_of.ensures.value) (entry_at c.self.inside.lines.now c.args.at c.index-lines-at.result (within c) c.index-lines-at.is)

pub returns-clause-position : goal.returns-clause-position
returns-clause-position c =
    let lines = c.self.inside.lines.now in
    omega (arith, number_above 0 lines c.args.at c.index-lines-at.result c.self.invariant.rising (slice_get_read lines (length lines) c.args.at c.index-lines-at.result refl (within c) c.index-lines-at.is), c.item_of.ensures.number)
