use Rattle.std.proofs.Common.{◌≡◌, length}
use Rattle.vic_log.specs.OpenRounds.{IsCursorAt}
use Rattle.vic_log.specs.Order.{entries}
use Rattle.vic_walk.specs.inner.Gathered.{ArePlaced}
use Rattle.vic_walk.proofs.cutting.gather.Given as goal

abbrev pub invariant-loop-index : goal.invariant-loop-index
invariant-loop-index l = record {
  cursor : IsCursorAt (entries l.lines) l.index l.cursor;
  count : length l.steps.items ≡ l.index;
  placed : ArePlaced (entries l.lines) l.borders l.steps.items;
}
