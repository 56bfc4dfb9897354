use Rattle.vic_report.proofs.Words.{ℕ, ◌*◌, ◌≤◌, List, length, entries, CouldHaveGiven, FitsLines, SameQuiet, IsCursorAt}
use Rattle.vic_report.proofs.kept_log.KeptLog.of.Given as goal

abbrev pub invariant-loop-line : goal.invariant-loop-line
invariant-loop-line l = record {
  round : IsCursorAt (entries l.lines) l.line-index l.cursor;
  limit : length l.kept ≤ 2 * l.line-index;
  quiet : SameQuiet l.kept (entries l.lines) l.line-index;
  given : (p : List ℕ) → FitsLines l.lines l.numbers p → CouldHaveGiven p l.kept;
}
