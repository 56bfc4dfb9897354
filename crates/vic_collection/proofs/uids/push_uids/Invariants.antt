use Rattle.vic_collection.proofs.Words.{◌≡◌, ◌++◌, take}
use Rattle.vic_report.specs.Findings.{uids_of}
use Rattle.vic_collection.proofs.uids.push_uids.Given as goal

abbrev pub invariant-loop-one : goal.invariant-loop-one
invariant-loop-one l = l.uids.items ≡ l.fn.uids.items ++ uids_of (take l.one-index l.shown)
