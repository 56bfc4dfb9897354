use Rattle.vic_log.proofs.Words.{◌≡◌, entries}
use Rattle.vic_log.specs.Order.{numbers}
use Rattle.vic_log.specs.Deaf.{hidden_entries}
use Rattle.vic_log.proofs.DeafLines.{replaced}
use Rattle.vic_log.proofs.deaf.hide.Given as goal

abbrev pub invariant-loop-index : goal.invariant-loop-index
invariant-loop-index l =
    let es = entries l.fn.lines in
    record { items : entries l.lines ≡ replaced (hidden_entries es) es l.index; same : numbers l.lines ≡ numbers l.fn.lines }
