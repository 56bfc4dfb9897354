use Rattle.vic_verdict.proofs.Words.{◌≡◌, ◌≤◌, take, length, entries, listed}
use Rattle.vic_verdict.proofs.listed.count_listed.Given as goal

abbrev pub invariant-loop-line : goal.invariant-loop-line
invariant-loop-line l = record { value : l.count ≡ length (listed (entries (take l.line-index l.lines))); small : l.count ≤ l.line-index }
