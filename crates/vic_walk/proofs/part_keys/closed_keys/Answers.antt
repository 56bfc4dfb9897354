use Rattle.std.proofs.lemmas.Result.{IfOk-weaker}
use Rattle.vic_walk.proofs.PartKeys.{outside_open}
use Rattle.vic_walk.proofs.part_keys.closed_keys.Goals as goal

pub returns-clause-outside : goal.returns-clause-outside
returns-clause-outside c = IfOk-weaker c.other_keys.result _ _ (λ closed keys es i at. outside_open c.args.parts.now es i c.args.ends.now _ c.other_keys.ensures.borders at keys) c.other_keys.ensures.keys
