use Rattle.vic_log.proofs.Words.{◌++◌, ◌∷◌, [], refl, ap, ◌∙◌, append_assoc, length, length-append, arith, err_from_is_err_and, lf, IfErr-weaker, on_ok_weaker}
use Rattle.vic_log.proofs.begun.take_piece.Goals as goal

pub loop-line-init : goal.loop-line-init
loop-line-init c = record { judged = λ text j. (text, j, refl); less = omega arith }

pub take_end-requires : goal.take_end-requires
take_end-requires c = c.in-Some.ensures.no_lf

pub returns-in_err-take_end-clause-err : goal.returns-in_err-take_end-clause-err
returns-in_err-take_end-clause-err c =
    let p = err_from_is_err_and c.from_residual.result c.from_residual.ensures.1 in
    rw (p.1, p.2) (λ text j.
    let i = c.loop-line.invariant.judged text j in
    rw (i.2, c.in-Some.ensures.whole) (c.in_err-take_end.ensures.err i.0 c.in-Some.behind.now i.1))

pub loop-line-preserved : goal.loop-line-preserved
loop-line-preserved c =
    let line = c.in-Some.line.now in
    let size = length-append line (lf ∷ c.in-Some.behind.now) in
    let whole = ap length c.in-Some.ensures.whole in
    let less = c.in_ok-take_end.ensures.less in
    record {
      judged = λ text j.
          let i = c.loop-line.invariant.judged text j in
          (i.0 ++ (line ++ lf ∷ []), c.in_ok-take_end.ensures.ok i.0 i.1, i.2 ∙ rw c.in-Some.ensures.whole (simp append_assoc));
      less = omega arith;
    }

pub loop-line-smaller : goal.loop-line-smaller
loop-line-smaller c =
    let size = length-append c.in-Some.line.now (lf ∷ c.in-Some.behind.now) in let whole = ap length c.in-Some.ensures.whole in omega arith

pub returns-clause-ok : goal.returns-clause-ok
returns-clause-ok c = on_ok_weaker c.take_begun.result (λ taken text j. let i = c.loop-line.invariant.judged text j in rw i.2 (taken i.0 i.1)) c.take_begun.ensures.ok

pub returns-clause-err : goal.returns-clause-err
returns-clause-err c =
    IfErr-weaker c.take_begun.result _ _ (λ e early text j. let i = c.loop-line.invariant.judged text j in rw i.2 (early i.0 i.1)) c.take_begun.ensures.err

pub returns-clause-less : goal.returns-clause-less
returns-clause-less c = on_ok_weaker c.take_begun.result (λ less. omega arith) c.take_begun.ensures.less
