use Rattle.std.proofs.Common.{subst, sym}
use Rattle.vic_operands.proofs.ListLaws.{gathered-behind_list}
use Rattle.vic_operands.specs.declared.gathered.Gathered.TheVariants.{Collection}
use Rattle.vic_operands.specs.inner.Lists.{IsBehindList}
use Rattle.vic_operands.proofs.reconcile_operands.gather_behind_list.Goals as goal

pub returns : goal.returns
returns c files h = gathered-behind_list files (Collection c.in_ok-collection.collection) (subst (λ k. IsBehindList files (Collection k)) (sym c.in_ok-collection.ensures) h)
