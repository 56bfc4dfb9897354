use Rattle.vic_verdict.proofs.Words.{◌∙◌, sym, false≢true, entries}
use Rattle.vic_verdict.proofs.Walking.{broken_log, found_met, met_enough, met_possible, possible_met, unbroken}
use Rattle.vic_verdict.proofs.facts.is_possible.Goals as goal

pub returns-then-is_some : goal.returns-then-is_some
returns-then-is_some c =
    let es = entries c.args.lines.now in
    let walk = c.in_ok-log_parts.field-0 in
    let some = sym c.is_some.ensures ∙ c.if-is_some.true in (
      (λ no. absurd (false≢true no)),
      (λ possible. absurd (broken_log walk.log_parts.parts es walk walk.broken c.in_ok-log_parts.ensures.walk some possible)),
    )

pub returns : goal.returns
returns c =
    let es = entries c.args.lines.now in
    let walk = c.in_ok-log_parts.field-0 in
    let none = sym c.is_some.ensures ∙ c.if-is_some.false in
    let end = unbroken walk.log_parts.parts es walk walk.broken c.in_ok-log_parts.ensures.walk none in
    let unread = c.in_ok-unread.unread.items in
    let iff = rw c.deref.ensures.value at c.are_met.ensures in (
      (λ met. possible_met es end.2 (found_met es unread c.in_ok-unread.ensures (iff.0 met))),
      (λ possible. iff.1 (met_enough es unread c.in_ok-unread.ensures (met_possible es possible))),
    )

pub open_answers-requires-clause-open : goal.open_answers-requires-clause-open
open_answers-requires-clause-open c =
    let walk = c.in_ok-log_parts.field-0 in
    (unbroken walk.log_parts.parts (entries c.args.lines.now) walk walk.broken c.in_ok-log_parts.ensures.walk (sym c.is_some.ensures ∙ c.if-is_some.false)).0
