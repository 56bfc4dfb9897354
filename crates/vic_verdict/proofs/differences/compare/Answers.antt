use Rattle.vic_verdict.proofs.Words.{ℕ, ◌++◌}
use Rattle.vic_verdict.proofs.Differing.{known_has, absent_by, unsettled_by, doubtful_by}
use Rattle.vic_verdict.proofs.KeyOrder.{outside_are}
use Rattle.vic_verdict.proofs.differences.compare.Goals as goal

pub returns : goal.returns
returns g c =
    let set = g.S.OpenSet.is_open c.args.set in
    let us = c.args.listed.now in
    let certain = c.args.certain.now in
    let unlisted = c.in_ok-unlisted.unlisted in
    let all = λ (u : ℕ). known_has us certain unlisted u c.in_ok-unlisted.ensures in
    let keys = c.in_ok-listed_or_certain.ensures in
    let outside = outside_are set _ (us ++ unlisted) _ keys c.in_ok-outside.ensures in
    let absent = absent_by set us certain (us ++ unlisted) _ _ all outside c.in_ok-absent.ensures in
    record {
      absent = absent;
      unlisted = c.in_ok-unlisted.ensures;
      unsettled = unsettled_by set us certain (us ++ unlisted) c.in_ok-listed_or_certain.listed_or_certain c.in_ok-unsettled.unsettled all keys c.in_ok-unsettled.ensures.found c.in_ok-unsettled.ensures.empty;
      doubtful = doubtful_by set us certain _ _ _ c.in_ok-uncertain.ensures absent c.in_ok-doubtful.ensures;
    }
