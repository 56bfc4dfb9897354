use Rattle.std.proofs.Common.{◌≡◌, ◌∙◌, ◌++◌, [], ◌∷◌, subst, sym}
use Rattle.vic_survey.specs.Names.{IsName}
use Rattle.vic_operands.proofs.GatheringLaws.{unnamed_last}
use Rattle.vic_operands.specs.inner.Lists.{HasTakenToReconcileBy}
use Rattle.vic_operands.proofs.reconcile_operands.ReconcileOperands.add.Goals as goal

pub returns-in_default : goal.returns-in_default
returns-in_default c files h = unnamed_last files (record { name = c.args.name.now; text = c.args.text.items }) (λ name. c.in_default.ensures (rw c.in_ok-from_str.ensures.ok name))

pub returns : goal.returns
returns c files h =
    let same : c.in-Some.log_name ≡ c.args.name.now = c.in-Some.ensures.1 ∙ c.in_ok-from_str.ensures.ok in
    let name : IsName c.in-Some.log_name = subst IsName (sym c.in-Some.ensures.1) c.in-Some.ensures.0 in
    subst (λ n. HasTakenToReconcileBy (files ++ record { name = n; text = c.args.text.items } ∷ []) c.in_ok-state_with.field-0) same (c.in_ok-state_with.ensures files h name)
