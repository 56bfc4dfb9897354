use Rattle.std.proofs.Common.{◌≡◌, ◌∙◌, [], ◌∷◌, false, ap, refl, subst, sym}
use Rattle.vic_operands.specs.Kinds.{is_list}
use Rattle.vic_operands.specs.inner.States.{HasTakenBy}
use Rattle.vic_operands.proofs.reconcile_operands.with_first.Goals as goal

pub returns : goal.returns
returns c name =
    let begins : is_list c.args.text.items ≡ false = ap is_list (sym c.as_slice.ensures.value) ∙ (sym c.is_list.ensures ∙ c.if-is_list.false) in (
      record { first = record { name = c.args.name; text = c.args.text.items }; others = []; split = refl; begins = begins },
      subst (λ n. HasTakenBy (record { name = n; text = c.args.text.items } ∷ []) c.in_ok-operands.operands.state) c.as_str.ensures.value (c.in_ok-operands.ensures [] c.begin.ensures),
    )
