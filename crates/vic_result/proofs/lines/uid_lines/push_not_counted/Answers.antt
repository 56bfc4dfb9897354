use Rattle.vic_result.specs.ResultLines.{not_counted_lines}
use Rattle.vic_result.proofs.FindingLines.{lines_next}
use Rattle.vic_result.proofs.lines.uid_lines.push_not_counted.Goals as goal

pub loop-found-preserved : goal.loop-found-preserved
loop-found-preserved c =
    lines_next (not_counted_lines c.args.collection.now) c.args.text.now.items c.args.not_counted.now c.loop-found.found-index c.found-item.result c.loop-found-test.true c.found-item.is c.loop-found.invariant c.in_ok-push_not_counted_line.ensures
