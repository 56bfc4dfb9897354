use Rattle.std.proofs.Common.{◌≡◌, drop}
use Rattle.vic_log.specs.Order.{entries}
use Rattle.vic_object.specs.Told.{link_of}
use Rattle.vic_object.proofs.plain.link_of.Given as goal

abbrev pub invariant-loop-line : goal.invariant-loop-line
invariant-loop-line l = link_of (entries (drop l.line-index l.lines)) ≡ link_of (entries l.lines)
