use Rattle.vic_report.proofs.Words.{◌≡◌, ℕ, List, true, take, has, IsStrictlyIncreasing, LogLine, ShowsCertain}
use Rattle.vic_report.specs.inner.NotedLines.{HasNoted}
use Rattle.vic_report.proofs.certain_lines.note_all.Given as goal

abbrev pub invariant-loop-uid : goal.invariant-loop-uid
invariant-loop-uid l =
    (lines : List LogLine) → IsStrictlyIncreasing l.uids → ((u : ℕ) → has l.several u ≡ true → ShowsCertain lines l.line u) → HasNoted lines l.uids l.initial.noted l.noted (λ u. has (take l.uid-index l.several) u ≡ true)
