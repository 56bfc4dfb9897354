use Rattle.vic_verdict.proofs.Words.{◌≡◌, ◌<◌, ◌≤◌, ◌-◌, length, get_or, not, take, filter, has}
use Rattle.vic_verdict.proofs.Merging.{AreBelow}
use Rattle.vic_verdict.proofs.differences.missing_from.Given as goal

abbrev pub invariant-loop-uid : goal.invariant-loop-uid
invariant-loop-uid l = record {
  within : l.next ≤ length l.others;
  below : l.uid-index < length l.uids → AreBelow l.others l.next (get_or l.uids l.uid-index 0);
  items : l.missing.items ≡ filter (λ u. not (has l.fn.others u)) (take l.uid-index l.uids);
}

abbrev pub invariant-loop-next : goal.invariant-loop-next
invariant-loop-next l = record {
  within : l.next ≤ length l.others;
  below : AreBelow l.others l.next l.uid;
}

abbrev pub decreases-loop-next : goal.decreases-loop-next
decreases-loop-next l = length l.others - l.next
