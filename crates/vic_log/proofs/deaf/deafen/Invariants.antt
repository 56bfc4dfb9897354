use Rattle.vic_log.proofs.Words.{◌≡◌, drop, entries}
use Rattle.vic_log.specs.Order.{numbers}
use Rattle.vic_log.specs.Deaf.{answers, deaf_entries}
use Rattle.vic_log.proofs.DeafLines.{replaced}
use Rattle.vic_log.proofs.deaf.deafen.Given as goal

abbrev pub invariant-loop-index : goal.invariant-loop-index
invariant-loop-index l =
    let es = entries l.fn.lines in
    record { items : entries l.lines ≡ replaced (deaf_entries es) es l.index; same : numbers l.lines ≡ numbers l.fn.lines; behind_is : l.behind ≡ answers (drop l.index es) }
