use Rattle.std.proofs.Common.{arith, inl, inr, length-append, ◌≡◌, ◌∷◌, []}
use Rattle.std.proofs.lemmas.Bool.{cases_lt}
use Rattle.std.proofs.lemmas.List.{get_or_append_left, get_or_push}
use Rattle.vic_walk.proofs.ordering.ranks_in.Goals as goal

pub loop-border-preserved : goal.loop-border-preserved
loop-border-preserved c =
    let l = c.loop-border in
    let ranks = l.ranks.items in
    let rank = c.rank_in-rank.result in
    let count = l.invariant.count in
    rw c.in_ok-push.ensures.items (record {
      count = omega (arith, count, length-append ranks (rank ∷ []));
      stand = λ k lt. elim (cases_lt k l.border-index) [
        | inl before ↦ rw (get_or_append_left ranks (rank ∷ []) 0 k (omega (arith, before, count))) (l.invariant.stand k before)
        | inr here ↦
            let same : k ≡ l.border-index = omega (arith, lt, here) in
            rw (same, get_or_push ranks rank 0 l.border-index count) c.rank_in-rank.ensures
      ];
    })

pub returns : goal.returns
returns c b place at = rw at.here at (c.loop-border.invariant.stand place (let within = at.within in omega (arith, within, c.loop-border-test.false)))
