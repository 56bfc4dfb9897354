use Rattle.std.proofs.Common.{arith}
use Rattle.vic_walk.proofs.BitLaws.{blank_noted}
use Rattle.vic_walk.proofs.MarkLaws.{blank_marks, none_marked}
use Rattle.vic_walk.proofs.marks.Marks.none.Goals as goal

pub invariant_of-result : goal.invariant_of-result
invariant_of-result c = blank_noted _ _ c.in_ok-none-2.ensures.none c.in_ok-none-3.ensures.none (omega (arith, c.in_ok-none-2.ensures.size, c.in_ok-none-3.ensures.size))

pub invariant_of-result-2 : goal.invariant_of-result-2
invariant_of-result-2 c = blank_marks _ _ _ c.ranges.count.fits c.in_ok-none.ensures.none c.in_ok-none-2.ensures.none c.in_ok-none.ensures.size c.in_ok-none-2.ensures.size

pub returns : goal.returns
returns c = none_marked _ _ c.in_ok-none.ensures.none
