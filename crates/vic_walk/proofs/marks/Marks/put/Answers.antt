use Rattle.std.proofs.Common.{◌∙◌, ap, arith, set, true}
use Rattle.vic_walk.proofs.MarkLaws.{below_count, marked_with, marks_with}
use Rattle.vic_walk.proofs.marks.Marks.put.Goals as goal

pub set-requires : goal.set-requires
set-requires c = let lt = below_count _ _ _ _ c.self.view_is c.requires in let room = c.self.invariant.room in omega (arith, lt, room)

pub set-requires-2 : goal.set-requires-2
set-requires-2 c = let lt = below_count _ _ _ _ c.self.view_is c.requires in let i = c.self.invariant in let room = i.room in let noted = i.noted.room in omega (arith, lt, room, noted)

pub invariant_of-self : goal.invariant_of-self
invariant_of-self c = marks_with _ _ _ _ _ _ (below_count _ _ _ _ c.self.view_is c.requires) c.set.ensures.set c.set-2.ensures.set c.set.ensures.size c.set-2.ensures.size c.self.invariant

pub returns : goal.returns
returns c = marked_with _ _ _ _ (below_count _ _ _ _ c.self.view_is c.requires) c.set.ensures.set ∙ ap (λ m. set m c.args.number true) c.self.view_is
