use Rattle.std.proofs.Common.{◌≡◌, ◌++◌, map, take}
use Rattle.vic_object.specs.Finding.{silenced_findings}
use Rattle.vic_object.specs.declared.finding.FindingTold.TheVariants.{Conflict}
use Rattle.vic_object.proofs.finding.lines_of_conflict.Given as goal

abbrev pub invariant-loop-line : goal.invariant-loop-line
invariant-loop-line l = l.found.items ≡ silenced_findings l.conflict.silenced_by ++ map Conflict (take l.line-index l.conflict.lines.items)
