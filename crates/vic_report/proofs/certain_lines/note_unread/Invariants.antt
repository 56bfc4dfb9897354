use Rattle.vic_report.proofs.Words.{IsStrictlyIncreasing}
use Rattle.vic_report.proofs.NotedLines.{SomeForcesBefore}
use Rattle.vic_report.specs.inner.NotedLines.{HasNoted}
use Rattle.vic_report.proofs.certain_lines.note_unread.Given as goal

abbrev pub invariant-loop-slot : goal.invariant-loop-slot
invariant-loop-slot l = IsStrictlyIncreasing l.uids → HasNoted l.lines l.uids l.initial.noted l.noted (SomeForcesBefore l.unread l.slot-index)
