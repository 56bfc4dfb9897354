use Rattle.vic_walk.proofs.BitLaws.{blank}
use Rattle.vic_walk.proofs.marks.Bits.none.Goals as goal

pub returns-clause-none : goal.returns-clause-none
returns-clause-none c k = blank _ k _ (c.in_ok-vec.ensures.items_if_clones_equal (λ y e. e))
