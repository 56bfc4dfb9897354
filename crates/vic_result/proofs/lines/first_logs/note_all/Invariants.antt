use Rattle.vic_result.proofs.Words.{◌≡◌, ℕ, Some, cond, take}
use Rattle.std.specs.BTreeMap.{get}
use Rattle.std.specs.Ordering.{nat_cmp}
use Rattle.vic_frame.specs.Uids.{has}
use Rattle.vic_result.proofs.lines.first_logs.note_all.Given as goal

abbrev pub invariant-loop-uid : goal.invariant-loop-uid
invariant-loop-uid l = (u : ℕ) → get nat_cmp l.logs u ≡ cond (has (take l.uid-index l.uids) u) (Some l.log) (get nat_cmp l.fn.logs u)
