use Rattle.vic_log.proofs.Words.{◌≡◌, ◌≤◌, ◌+◌, drop, entries}
use Rattle.vic_log.specs.Deaf.{answers}
use Rattle.vic_log.proofs.deaf.answers.Given as goal

abbrev pub invariant-loop-line : goal.invariant-loop-line
invariant-loop-line l = record { count_is : l.count + answers (entries (drop l.line-index l.lines)) ≡ answers (entries l.lines); few : l.count ≤ l.line-index }
