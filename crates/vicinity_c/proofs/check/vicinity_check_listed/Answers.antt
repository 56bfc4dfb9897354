use Rattle.vicinity_c.proofs.Words.{ℕ, List, subst, ◌∙◌, arith, HasCompleteList}
use Rattle.vicinity_c.proofs.Beside.{lists_beside}
use Rattle.vicinity_c.proofs.check.vicinity_check_listed.Goals as goal

pub returns-in-Ok-clause-list : goal.returns-in-Ok-clause-list
returns-in-Ok-clause-list c e =
    lists_beside c.args.text.now c.args.uids.now _ (λ j. omega (arith, c.type_inv.uids j))
    (subst (λ (t : List ℕ). HasCompleteList t c.vicinity_check.new.answer.count) (c.as_slice.ensures.value ∙ c.in-Ok.ensures) (c.vicinity_check.ensures.whole e))
