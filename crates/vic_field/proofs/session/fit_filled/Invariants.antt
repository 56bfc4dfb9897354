use Rattle.vic_field.proofs.Words.{◌≡◌, ◌≤◌, suc, take, MAX_LINES, entries, line_count}
use Rattle.vic_field.proofs.session.fit_filled.Given as goal

abbrev pub invariant-loop-line : goal.invariant-loop-line
invariant-loop-line l = record {
  last : l.last ≡ suc (line_count (entries (take l.line-index l.lines)));
  room : l.last ≤ MAX_LINES;
}
