use Rattle.vic_report.proofs.Words.{◌≡◌, take, All, uids_of, IsRuledOut}
use Rattle.vic_report.proofs.absent_lines.lines_of_absent.Given as goal

abbrev pub invariant-loop-uid : goal.invariant-loop-uid
invariant-loop-uid l = record {
  uids : uids_of l.shown.items ≡ take l.uid-index l.absent;
  shown : All (IsRuledOut l.log.lines) l.shown.items;
}
