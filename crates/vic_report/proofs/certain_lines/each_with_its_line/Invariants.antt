use Rattle.vic_report.proofs.Words.{◌≡◌, List, take, All, LogLine, uids_of, IsShownCertain, IsShownFirst}
use Rattle.vic_report.specs.inner.NotedLines.{AreShown, AreShownFirst}
use Rattle.vic_report.proofs.certain_lines.each_with_its_line.Given as goal

abbrev pub invariant-loop-index : goal.invariant-loop-index
invariant-loop-index l = record {
  uids : uids_of l.shown.items ≡ take l.index l.uids;
  shown : (lines : List LogLine) → AreShown lines l.uids l.noted → All (IsShownCertain lines) l.shown.items;
  first : (lines : List LogLine) → AreShownFirst lines l.uids l.noted → All (IsShownFirst lines) l.shown.items;
}
