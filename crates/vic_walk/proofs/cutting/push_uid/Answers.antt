use Rattle.std.proofs.Common.{◌+◌, ◌∙◌, ap, subst}
use Rattle.vic_walk.proofs.CutLaws.{more_again}
use Rattle.vic_walk.specs.inner.Gathered.{StandsAt}
use Rattle.vic_walk.proofs.cutting.push_uid.Goals as goal

pub returns-clause-more : goal.returns-clause-more
returns-clause-more c = more_again _ _ _ c.in_ok-place.ensures.more c.in_ok-push.ensures.more

pub returns-clause-uid : goal.returns-clause-uid
returns-clause-uid c =
    let own = c.key-own.ensures.value in
    let bs = c.push-2.new.self in (
      subst (λ b. StandsAt bs b c.in_ok-place.place) (c.at.ensures ∙ own) (c.in_ok-push.ensures.more _ _ c.in_ok-place.ensures.there),
      (c.in_ok-push.field-0, subst (λ b. StandsAt bs b c.in_ok-push.field-0) (c.past.ensures ∙ ap (λ k. k + 1) own) c.in_ok-push.ensures.there),
    )
