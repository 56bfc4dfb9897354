use Rattle.vic_log.proofs.Words.{rules, add-one, arith, nil_from_length, err_from_is_err_and}
use Rattle.vic_log.proofs.Judged.{end-empty, end-lines, end-next, end-refused}
use Rattle.vic_log.proofs.begun.end_text.Goals as goal

pub returns-in_err-take_line : goal.returns-in_err-take_line
returns-in_err-take_line c = λ text j.
    let p = err_from_is_err_and c.from_residual.result c.from_residual.ensures.1 in
    rw (p.1, p.2) (end-refused j.begun (search rules) c.in_err-take_line.field-0.0 (rw (c.as_slice.ensures.value, add-one) at c.in_err-take_line.ensures.answer))

pub returns-then-not-is_empty : goal.returns-then-not-is_empty
returns-then-not-is_empty c = λ text j.
    rw (c.in_ok-take_line.ensures.log, c.as_slice.ensures.value, add-one) (end-next j.begun (search rules) (rw (c.as_slice.ensures.value, add-one) at c.in_ok-take_line.ensures.answer))

pub returns-then-read-eq0 : goal.returns-then-read-eq0
returns-then-read-eq0 c = λ text j. end-empty j.begun (nil_from_length c.args.begun.line.items (search rules)) c.if-read-eq0.true

pub returns : goal.returns
returns c = λ text j. end-lines j.begun (nil_from_length c.args.begun.line.items (search rules)) (omega arith)
