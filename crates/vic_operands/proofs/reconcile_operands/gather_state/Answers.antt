use Rattle.std.proofs.lemmas.Result.{IfOk-weaker}
use Rattle.vic_operands.proofs.ListLaws.{gathered-behind_list, gathered-no_list, gathered-none, gathered-unnamed}
use Rattle.vic_operands.specs.declared.gathered.Gathered.TheVariants.{Refused}
use Rattle.vic_operands.proofs.reconcile_operands.gather_state.Goals as goal

pub returns-in-Nothing : goal.returns-in-Nothing
returns-in-Nothing c files h = gathered-none files (rw c.in-Nothing.is at h)

pub returns-in-Unnamed : goal.returns-in-Unnamed
returns-in-Unnamed c files h = gathered-unnamed files (rw c.in-Unnamed.is at h)

pub returns-in-Refused : goal.returns-in-Refused
returns-in-Refused c files h = gathered-behind_list files (Refused c.in-Refused.refusal) (rw c.in-Refused.is at h)

pub returns-in-Listed : goal.returns-in-Listed
returns-in-Listed c = IfOk-weaker c.gather_behind_list.result _ _ (λ g right files h. right files (rw c.in-Listed.is at h)) c.gather_behind_list.ensures

pub returns-in-Collected : goal.returns-in-Collected
returns-in-Collected c =
    IfOk-weaker c.finish.result _ _ (λ g right files h. (let was = rw c.in-Collected.is at h in gathered-no_list files g was.0 (right files was.1))) c.finish.ensures
