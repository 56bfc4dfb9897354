use Rattle.vic_report.proofs.Words.{entries, IsStrictlyIncreasing}
use Rattle.vic_report.proofs.NotedLines.{IsHeardBefore}
use Rattle.vic_report.specs.inner.NotedLines.{AreFirstReplies, HasNoted}
use Rattle.vic_report.proofs.certain_lines.note_replies.Given as goal

abbrev pub invariant-loop-line : goal.invariant-loop-line
invariant-loop-line l = record {
  noted : IsStrictlyIncreasing l.uids → HasNoted l.lines l.uids l.initial.noted l.noted (IsHeardBefore (entries l.lines) l.line-index);
  first : IsStrictlyIncreasing l.uids → AreFirstReplies l.lines l.uids l.initial.noted → AreFirstReplies l.lines l.uids l.noted;
}
