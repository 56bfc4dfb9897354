use Rattle.std.proofs.Common.{◌++◌, ◌∷◌, [], subst}
use Rattle.vic_operands.proofs.GatheringLaws.{unnamed_before}
use Rattle.vic_operands.proofs.ListLaws.{no_list-more, refused-more}
use Rattle.vic_operands.specs.inner.States.{HasTakenBy}
use Rattle.vic_operands.proofs.reconcile_operands.state_with.Goals as goal

pub returns-in-Unnamed : goal.returns-in-Unnamed
returns-in-Unnamed c files h name = unnamed_before files _ (rw c.in-Unnamed.is at h)

pub returns-in-Refused : goal.returns-in-Refused
returns-in-Refused c files h name = refused-more files _ c.in-Refused.refusal name (rw c.in-Refused.is at h)

pub returns-in_ok-more-in-Collected : goal.returns-in_ok-more-in-Collected
returns-in_ok-more-in-Collected c files h name =
    let was = rw c.in-Collected.is at h in (
      no_list-more files (record { name = c.args.name; text = c.args.text.items }) was.0,
      subst (λ n. HasTakenBy (files ++ record { name = n; text = c.args.text.items } ∷ []) c.in_ok-more-in-Collected.more.state) c.as_str.ensures.value (c.in_ok-more-in-Collected.ensures files was.1),
    )
