use Rattle.vic_field.proofs.Words.{◌≡◌, take, entries, listed, numbered}
use Rattle.vic_field.proofs.Played.{IsPlayed}
use Rattle.vic_field.proofs.session.simulate.Given as goal

abbrev pub invariant-loop-line : goal.invariant-loop-line
invariant-loop-line l = record {
  version : l.filled.version ≡ l.fn.log.version;
  numbers : l.filled.lines ≡ numbered 2 (entries l.filled.lines);
  played : IsPlayed (listed (entries l.lines)) (entries (take l.line-index l.lines)) (entries l.filled.lines) l.field;
}
