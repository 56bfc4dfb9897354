use Rattle.std.proofs.Common.{◌/◌}
use Rattle.vic_walk.proofs.Words.{◌+◌, ◌-◌, arith}
use Rattle.vic_log.specs.Order.{entries}
use Rattle.vic_walk.proofs.ListLaws.{list_from}
use Rattle.vic_walk.proofs.listing.list_start.Goals as goal

pub loop-low-preserved-then-is_listing : goal.loop-low-preserved-then-is_listing
loop-low-preserved-then-is_listing c =
    let lines = c.args.lines.now in
    let l = c.loop-low in
    let middle = l.low + (l.high - l.low) / 2 in
    let here = c.entry-entry.ensures.here in
    record {
      forward = omega arith;
      within = omega (arith, l.invariant.within);
      before = l.invariant.before;
      list = list_from (entries lines) middle c.entry-entry.result c.entry-entry.ensures.log.order here (c.is_listing.ensures.listing c.if-is_listing.true);
    }

pub loop-low-preserved : goal.loop-low-preserved
loop-low-preserved c =
    let lines = c.args.lines.now in
    let l = c.loop-low in
    let middle = l.low + (l.high - l.low) / 2 in
    let here = c.entry-entry.ensures.here in
    record {
      forward = omega arith;
      within = l.invariant.within;
      before = λ i e below at is. c.is_listing.ensures.other c.if-is_listing.false (list_from (entries lines) i e c.entry-entry.ensures.log.order at is middle c.entry-entry.result (omega arith) here);
      list = l.invariant.list;
    }
