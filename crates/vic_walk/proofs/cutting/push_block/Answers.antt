use Rattle.std.proofs.Common.{arith, subst, ◌+◌, ◌-◌, ◌^◌, ◌≡◌}
use Rattle.std.proofs.lemmas.Nat.{pow_pos}
use Rattle.vic_walk.proofs.CutLaws.{more_again}
use Rattle.vic_walk.specs.inner.Gathered.{StandsAt}
use Rattle.vic_walk.proofs.cutting.push_block.Goals as goal

pub returns-in_ok-to-in-Some-clause-more : goal.returns-in_ok-to-in-Some-clause-more
returns-in_ok-to-in-Some-clause-more c = more_again _ _ _ c.in_ok-from-in-Some.ensures.more c.in_ok-to-in-Some.ensures.more

pub returns-in_ok-to-in-Some-clause-block : goal.returns-in_ok-to-in-Some-clause-block
returns-in_ok-to-in-Some-clause-block c =
    let block = c.in-Some.block in
    let bs = c.push-in-Some.new.self in
    let end : c.past.result.number ≡ block.first + 2 ^ (56 - block.len) = omega (arith, c.past.ensures, c.last.ensures, pow_pos (56 - block.len)) in
    rw c.in-Some.is (
      subst (λ b. StandsAt bs b c.in_ok-from-in-Some.from) c.at.ensures (c.in_ok-to-in-Some.ensures.more _ _ c.in_ok-from-in-Some.ensures.there),
      subst (λ b. StandsAt bs b c.in_ok-to-in-Some.to) end c.in_ok-to-in-Some.ensures.there,
    )
