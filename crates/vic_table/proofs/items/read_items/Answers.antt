use Rattle.vic_table.proofs.Words.{add-one, length, drop, arith}
use Rattle.vic_table.proofs.Reading.{items_next, items_refused, no_items_refused, items_whole, none_kept, some_kept}
use Rattle.vic_table.proofs.items.read_items.Goals as goal

pub returns-in-Err-clause-read : goal.returns-in-Err-clause-read
returns-in-Err-clause-read c = λ lines f.
    let i = c.loop-at.invariant in
    let a = i.read lines f in
    items_refused (drop c.in-Some.at.next c.args.text.now) a i.some c.in-Some.ensures.line.lines c.in-Err.fault (c.in-Err.ensures.taken _ a.set_is)

pub loop-at-preserved : goal.loop-at-preserved
loop-at-preserved c =
    let text = c.args.text.now in
    let i = c.loop-at.invariant in
    let l = c.in-Some.ensures.line in
    record {
      some = omega arith;
      limit = omega (arith, c.in-Ok.ensures.room);
      bound = l.bound;
      within = c.in_ok-push_some.ensures.within (length text) i.within c.in-Ok.ensures.within;
      read = λ lines f.
          let a = i.read lines f in
          let n = items_next (drop c.in-Some.at.next text) a i.some l.lines text c.line_item.new.uids c.in-Ok.item (c.in-Ok.ensures.taken _ a.set_is) in
          rw (c.in_ok-push_some.ensures.values text, add-one) n;
    }

pub returns-then-len-eq0-clause-read : goal.returns-then-len-eq0-clause-read
returns-then-len-eq0-clause-read c = λ lines f.
    let i = c.loop-at.invariant in
    let a = rw c.in_default.ensures.end at (i.read lines f) in
    rw add-one (no_items_refused a i.some (none_kept c.args.text.now c.loop-at.items (omega arith)))

pub returns-clause-read : goal.returns-clause-read
returns-clause-read c = λ lines f.
    let i = c.loop-at.invariant in
    let a = rw c.in_default.ensures.end at (i.read lines f) in
    items_whole a i.some (some_kept c.args.text.now c.loop-at.items (λ e. absurd (omega (arith, e))))
