use Rattle.vicinity_c.proofs.Words.{ℕ, ap, ◌∙◌, sym, arith, subst, VicinityAnswer, HasCompleteList}
use Rattle.vicinity_c.proofs.check.vicinity_check.Goals as goal
use Rattle.vicinity_c.proofs.check.vicinity_check.Goals.{in-Ok, in-Err}

pub returns-clause-whole : goal.returns-clause-whole
returns-clause-whole c is_1 =
    let kind : VicinityAnswer → ℕ = λ t. t.kind in
    elim c.match-judge_text.branch [
      | in-Ok w ↦
          let P : VicinityAnswer → Type 0 = λ t. HasCompleteList c.args.text.now t.count in
          let complete = w.numbers_of.ensures.complete (ap kind (sym w.answer-is) ∙ is_1) in
          subst P (sym w.answer-is) (w.in-Ok.ensures.whole w.numbers_of.result.count complete)
      | in-Err w ↦ absurd (omega (arith, is_1, ap kind w.answer-is))
    ]
