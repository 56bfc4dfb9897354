use Rattle.std.proofs.Common.{arith, inl, inr, ◌≡◌}
use Rattle.std.proofs.lemmas.Bool.{cases_lt}
use Rattle.vic_walk.proofs.ordering.have_ranks.Goals as goal

pub loop-index-preserved : goal.loop-index-preserved
loop-index-preserved c k lt = elim (cases_lt k c.loop-index.index) [
  | inl before ↦ c.loop-index.invariant k before
  | inr here ↦
      let same : c.loop-index.index ≡ k = omega (arith, lt, here) in
      rw (← same) (rw c.rank_of.ensures at (c.has_at.ensures c.if-not-has_at.false))
]

pub returns : goal.returns
returns c _ b place at = rw at.here at (c.loop-index.invariant place (let within = at.within in omega (arith, within)))
