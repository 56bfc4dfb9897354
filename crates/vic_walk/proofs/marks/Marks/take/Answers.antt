use Rattle.std.proofs.Common.{◌∙◌, ap, arith, false, refl, set}
use Rattle.vic_walk.proofs.BitLaws.{noted_emptied, noted_left}
use Rattle.vic_walk.proofs.MarkLaws.{below_count, marked_without, marks_without}
use Rattle.vic_walk.proofs.marks.Marks.take.Goals as goal

pub clear-requires : goal.clear-requires
clear-requires c = let lt = below_count _ _ _ _ c.self.view_is c.requires in let room = c.self.invariant.room in omega (arith, lt, room)

pub clear-requires-then-clear : goal.clear-requires-then-clear
clear-requires-then-clear c = let lt = below_count _ _ _ _ c.self.view_is c.requires in let i = c.self.invariant in let room = i.room in let noted = i.noted.room in omega (arith, lt, room, noted)

pub invariant_of-self : goal.invariant_of-self
invariant_of-self c =
    let bits = c.clear.ensures in
    let notes = c.clear-then-clear.ensures in
    marks_without _ _ _ _ _ _ bits.cleared (noted_emptied _ _ _ _ _ bits.cleared (c.if-clear.ensures.empty refl) notes.cleared bits.size notes.size c.self.invariant.noted) bits.size c.self.invariant

pub invariant_of-self-else-clear : goal.invariant_of-self-else-clear
invariant_of-self-else-clear c =
    let bits = c.clear.ensures in
    marks_without _ _ _ _ _ _ bits.cleared (noted_left _ _ _ _ bits.cleared (c.if-clear.ensures.left refl) bits.size c.self.invariant.noted) bits.size c.self.invariant

pub returns-then-clear : goal.returns-then-clear
returns-then-clear c = marked_without _ _ _ _ (below_count _ _ _ _ c.self.view_is c.requires) c.clear.ensures.cleared ∙ ap (λ m. set m c.args.number false) c.self.view_is

pub returns-else-clear : goal.returns-else-clear
returns-else-clear c = marked_without _ _ _ _ (below_count _ _ _ _ c.self.view_is c.requires) c.clear.ensures.cleared ∙ ap (λ m. set m c.args.number false) c.self.view_is
