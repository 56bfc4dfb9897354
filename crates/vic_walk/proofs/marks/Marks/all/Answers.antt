use Rattle.std.proofs.Common.{arith}
use Rattle.std.proofs.lemmas.Grind.{div_ceil_times}
use Rattle.vic_walk.proofs.BitLaws.{first_noted}
use Rattle.vic_walk.proofs.MarkLaws.{all_below, marked_below}
use Rattle.vic_walk.proofs.marks.Marks.all.Goals as goal

pub invariant_of-result : goal.invariant_of-result
invariant_of-result c =
    let up = (div_ceil_times c.div_ceil-filled.result 64 (omega arith)).0 in
    first_noted _ _ c.div_ceil-filled.result c.in_ok-below-2.ensures.set (rw c.div_ceil.ensures at c.in_ok-below-3.ensures.set) (omega (arith, c.in_ok-below-2.ensures.size, c.in_ok-below-3.ensures.size, c.div_ceil.ensures, up))

pub invariant_of-result-2 : goal.invariant_of-result-2
invariant_of-result-2 c = all_below _ _ _ c.ranges.count.fits c.in_ok-below.ensures.set (rw c.div_ceil-filled.ensures at c.in_ok-below-2.ensures.set) c.in_ok-below.ensures.size (rw c.div_ceil-filled.ensures at c.in_ok-below-2.ensures.size)

pub returns : goal.returns
returns c = marked_below _ _ c.in_ok-below.ensures.set
