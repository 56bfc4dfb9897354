use Rattle.vic_log.proofs.Words.{◌≡◌, ◌≤◌, ◌+◌, ◌-◌, ◌++◌, ℕ, List, [], Some, take, true, false, length, Consumes, IsAtEnd, HasNoEarlyFault}
use Rattle.std.proofs.Common.{unwrap_or}
use Rattle.vic_log.proofs.reader.read_from.Given as goal

abbrev pub invariant-loop-count : goal.invariant-loop-count
invariant-loop-count g l = record {
  text : List ℕ;
  fed : l.fed ≡ Some text;
  none_early : HasNoEarlyFault text;
  within : length text ≤ 130000000;
  given : Consumes (g.R.Source.left l.fn.source) (g.R.Source.left l.source) (text ++ take l.count l.piece);
  returned : g.R.Source.returned l.source ≡ g.R.Source.returned l.fn.source ++ (text ++ take l.count l.piece);
  works : g.R.Source.has_failed l.source ≡ false;
  bound : l.count ≤ length l.piece;
  end : l.count ≡ 0 → IsAtEnd (g.R.Source.left l.source);
  ended : l.count ≡ 0 → g.R.Source.ended l.source ≡ true;
  reads : g.R.Source.reads l.source ≤ g.R.Source.reads l.fn.source + (length text + 1);
}

abbrev pub decreases-loop-count : goal.decreases-loop-count
decreases-loop-count g l = 130000001 - length (unwrap_or l.fed [])
