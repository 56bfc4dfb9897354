use Rattle.vic_field.proofs.Words.{◌<◌, ◌≤◌, length, arith, ⊎_elim, cases_lt, get_or_default, non_decreasing_from_sorted}
use Rattle.vic_field.proofs.row.Row.next_ready.Goals as goal

pub loop-position-preserved : goal.loop-position-preserved
loop-position-preserved c =
    let i = c.loop-position.invariant in
    let low = i.low in
    record {
      low = omega (arith, low);
      quiet = λ k from lt. ⊎_elim
          (λ (before : k < c.loop-position.position). i.quiet k from before)
          (λ (after : c.loop-position.position ≤ k). c.run_from-quiet.ensures.quiet k after lt)
          (cases_lt k c.loop-position.position);
    }

pub returns-else-index-last-clause-none : goal.returns-else-index-last-clause-none
returns-else-index-last-clause-none c none k low lt high =
    let ks = c.args.self.now.keys.items in
    let position = c.loop-position.position in
    ⊎_elim
    (λ (before : k < position). c.loop-position.invariant.quiet k low before)
    (λ (from : position ≤ k).
    let up = non_decreasing_from_sorted ks c.args.self.now.rising.rising position k 0 from lt in
    let there : position < length ks = omega (arith, from, lt) in
    let same = get_or_default ks position 0 c.index.result.now there in
    let here = c.index.ensures in
    let past = c.if-index-last.false in
    absurd (omega (arith, up, same, here, past, high)))
    (cases_lt k position)
