use Rattle.vic_walk.proofs.Words.{◌-◌, ◌≤◌, length}
use Rattle.vic_log.specs.Order.{entries}
use Rattle.vic_walk.specs.Listing.{IsBeforeList, IsListFrom}
use Rattle.vic_walk.proofs.listing.list_start.Given as goal

abbrev pub invariant-loop-low : goal.invariant-loop-low
invariant-loop-low l = record {
  forward : l.low ≤ l.high;
  within : l.high ≤ length l.lines;
  before : IsBeforeList (entries l.lines) l.low;
  list : IsListFrom (entries l.lines) l.high;
}

abbrev pub decreases-loop-low : goal.decreases-loop-low
decreases-loop-low l = l.high - l.low
