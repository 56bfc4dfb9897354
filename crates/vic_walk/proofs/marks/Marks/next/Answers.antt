use Rattle.std.proofs.Common.{None, Some}
use Rattle.vic_walk.proofs.BitLaws.{next_noted, none_noted}
use Rattle.vic_walk.proofs.MarkLaws.{next_marked}
use Rattle.vic_walk.proofs.marks.Marks.next.Goals as goal

pub returns-in-Some : goal.returns-in-Some
returns-in-Some c = next_marked _ _ (Some c.in-Some.number) _ _ c.self.invariant.below c.self.view_is c.in-Some.ensures.first

pub returns-in_err-at : goal.returns-in_err-at
returns-in_err-at c = rw c.from_residual.ensures (next_marked _ _ None _ _ c.self.invariant.below c.self.view_is (none_noted _ _ c.args.from c.self.invariant.noted c.in_default.ensures.none c.in_err-at.ensures))

pub returns : goal.returns
returns c = next_marked _ _ _ _ _ c.self.invariant.below c.self.view_is (next_noted _ _ c.args.from c.in_ok-at.at c.first_in_word-2.result c.self.invariant.noted c.in_default.ensures.none c.in_ok-at.ensures c.first_in_word-2.ensures.first c.first_in_word-2.ensures.none)
