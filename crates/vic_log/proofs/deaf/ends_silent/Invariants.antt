use Rattle.vic_log.proofs.Words.{◌≡◌, ◌&&◌, ◌||◌, ◌==◌, drop, entries}
use Rattle.vic_log.specs.Deaf.{answers, ends_silent}
use Rattle.vic_log.proofs.deaf.ends_silent.Given as goal

abbrev pub invariant-loop-line : goal.invariant-loop-line
invariant-loop-line l =
    let rest = entries (drop l.line-index l.lines) in
    ((l.silent && answers rest == 0) || ends_silent rest) ≡ ends_silent (entries l.lines)
