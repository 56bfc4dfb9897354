use Rattle.vic_verdict.proofs.Words.{entries}
use Rattle.vic_verdict.proofs.Meeting.{HasHeard}
use Rattle.vic_verdict.proofs.facts.heard_uids.Given as goal

abbrev pub invariant-loop-index : goal.invariant-loop-index
invariant-loop-index l = HasHeard (entries l.lines) l.index l.heard.items
