use Rattle.std.proofs.Common.{◌∙◌, sym}
use Rattle.vic_walk.proofs.MarkLaws.{same_marks}
use Rattle.vic_walk.proofs.marks.Marks.has.Goals as goal

pub returns : goal.returns
returns c = c.has.ensures ∙ sym (same_marks _ c.args.number _ c.args.self.now c.self.invariant.below c.self.view_is)
