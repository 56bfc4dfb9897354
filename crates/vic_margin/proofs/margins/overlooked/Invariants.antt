use Rattle.vic_margin.proofs.Words.{◌≡◌}
use Rattle.std.proofs.Common.{map, take}
use Rattle.vic_log.specs.Order.{entries}
use Rattle.vic_margin.specs.UidMargins.{margin_of}
use Rattle.vic_margin.proofs.margins.overlooked.Given as goal

abbrev pub invariant-loop-uid : goal.invariant-loop-uid
invariant-loop-uid l = l.found.items ≡ map (margin_of (entries l.log.lines)) (take l.uid-index l.uids)
