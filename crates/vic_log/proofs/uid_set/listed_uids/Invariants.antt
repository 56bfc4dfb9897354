use Rattle.vic_log.proofs.Words.{take, entries, listed, IsUidSet, IsSetOf}
use Rattle.vic_log.proofs.uid_set.listed_uids.Given as goal

abbrev pub invariant-loop-line : goal.invariant-loop-line
invariant-loop-line l = record {
  set : IsUidSet l.set;
  uids : IsSetOf (listed (entries (take l.line-index l.lines))) l.set;
}
