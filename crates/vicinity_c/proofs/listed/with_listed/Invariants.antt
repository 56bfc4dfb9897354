use Rattle.vicinity_c.proofs.Words.{◌≡◌, ◌++◌, drop, listed_text}
use Rattle.vicinity_c.specs.Beside.{with_listed}
use Rattle.vicinity_c.proofs.listed.with_listed.Given as goal

abbrev pub invariant-loop-uid : goal.invariant-loop-uid
invariant-loop-uid l = l.whole.items ++ listed_text (drop l.uid-index l.uids) ≡ with_listed l.fn.text l.uids
