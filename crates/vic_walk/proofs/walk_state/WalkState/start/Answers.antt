use Rattle.std.proofs.Common.{◌∙◌}
use Rattle.vic_walk.proofs.Effects.{walk_starts}
use Rattle.vic_walk.proofs.walk_state.WalkState.start.Goals as goal

pub returns : goal.returns
returns c bs es same = walk_starts bs es c.args.count _ same (c.all_ready.ensures.ready ∙ c.in_ok-all.ensures) c.all_ready.ensures.quiet (c.in_ok-vec.ensures.items_if_clones_equal (λ y e. e)) c.in_ok-none.ensures
