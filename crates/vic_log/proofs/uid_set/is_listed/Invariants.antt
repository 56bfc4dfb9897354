use Rattle.vic_log.proofs.Words.{◌≡◌, take, false, has, entries, listed}
use Rattle.vic_log.proofs.uid_set.is_listed.Given as goal

abbrev pub invariant-loop-line : goal.invariant-loop-line
invariant-loop-line l = has (listed (entries (take l.line-index l.lines))) l.uid ≡ false
