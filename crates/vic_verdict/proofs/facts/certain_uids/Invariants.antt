use Rattle.vic_verdict.proofs.Words.{take}
use Rattle.vic_verdict.proofs.Meeting.{HasCertain}
use Rattle.vic_verdict.proofs.facts.certain_uids.Given as goal

abbrev pub invariant-loop-slot : goal.invariant-loop-slot
invariant-loop-slot l = HasCertain l.met.heard.items (take l.slot-index l.met.unread.items) l.certain.items
