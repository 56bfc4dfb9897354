use Rattle.std.proofs.Common.{arith}
use Rattle.vic_walk.proofs.BitLaws.{next_noted, number_below}
use Rattle.vic_walk.proofs.marks.NotedBits.first.Goals as goal

pub overflow_mul-at : goal.overflow_mul-at
overflow_mul-at c =
    let below = number_below _ _ (c.self.invariant.found _ c.in_ok-at.ensures.passes) in
    record { fits = omega (arith, below, c.first_in_word.ensures.counted) }

pub returns : goal.returns
returns c = rw (← c.self.view_is) (next_noted _ _ c.args.from c.in_ok-at.at c.first_in_word-2.result c.self.invariant c.in_default.ensures.none c.in_ok-at.ensures c.first_in_word-2.ensures.first c.first_in_word-2.ensures.none)
