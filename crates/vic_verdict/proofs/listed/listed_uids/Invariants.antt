use Rattle.vic_verdict.proofs.Words.{◌≡◌, ℕ, take, true, IsUid, has, entries, listed}
use Rattle.vic_verdict.proofs.listed.listed_uids.Given as goal

abbrev pub invariant-loop-line : goal.invariant-loop-line
invariant-loop-line l = record { items : l.uids.items ≡ listed (entries (take l.line-index l.lines)); uids : (u : ℕ) → has l.uids.items u ≡ true → IsUid u }
