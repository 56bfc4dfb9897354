use Rattle.vic_table.proofs.Words.{add-one, drop, arith}
use Rattle.vic_table.proofs.Reading.{rows_next, rows_refused, rows_whole}
use Rattle.vic_table.proofs.place_rows.read_place_rows.Goals as goal

pub returns-in-Err : goal.returns-in-Err
returns-in-Err c = λ lines f.
    let i = c.loop-at.invariant in
    let a = i.read lines f in
    rows_refused (drop c.in-Some.at.next c.args.text.now) a i.some c.in-Some.ensures.line.lines c.in-Err.fault (c.in-Err.ensures.taken _ a.set_is)

pub loop-at-preserved : goal.loop-at-preserved
loop-at-preserved c =
    let i = c.loop-at.invariant in
    let l = c.in-Some.ensures.line in
    record {
      some = omega arith;
      limit = omega (arith, c.in-Ok.ensures.room);
      bound = l.bound;
      read = λ lines f.
          let a = i.read lines f in
          let n = rows_next (drop c.in-Some.at.next c.args.text.now) a i.some l.lines c.line_row.new.logs c.in-Ok.row (c.in-Ok.ensures.taken _ a.set_is) in
          rw (c.in_ok-push_some.ensures, add-one) n;
    }

pub returns : goal.returns
returns c = λ lines f.
    let i = c.loop-at.invariant in
    let a = rw c.in_default.ensures.end at (i.read lines f) in
    rows_whole a i.some
