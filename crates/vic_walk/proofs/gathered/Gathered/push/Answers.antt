use Rattle.vic_walk.proofs.Words.{◌≡◌, refl}
use Rattle.vic_walk.proofs.PartLaws.{gathered_more}
use Rattle.vic_walk.proofs.gathered.Gathered.push.Goals as goal
use Rattle.vic_walk.proofs.gathered.Gathered.push.Goals.{in-Some-get_mut, in_default-get_mut}

pub invariant_of-self-2 : goal.invariant_of-self-2
invariant_of-self-2 c =
    let same : c.match-get_mut.self-inside.borders.items ≡ c.self.inside.borders.items = elim c.match-get_mut.branch [ in-Some-get_mut w ↦ rw w.self-inside-is refl | in_default-get_mut w ↦ rw w.self-inside-is refl ] in
    rw (c.in_ok-push.ensures.items, same) (gathered_more _ _ c.args.border.is_border c.self.invariant)
