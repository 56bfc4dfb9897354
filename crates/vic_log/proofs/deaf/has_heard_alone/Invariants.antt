use Rattle.vic_log.proofs.Words.{◌≡◌, drop, entries}
use Rattle.vic_log.specs.Deaf.{has_heard_alone}
use Rattle.vic_log.proofs.deaf.has_heard_alone.Given as goal

abbrev pub invariant-loop-line : goal.invariant-loop-line
invariant-loop-line l = has_heard_alone (entries (drop l.line-index l.lines)) ≡ has_heard_alone (entries l.lines)
