use Rattle.vic_tree.proofs.Words.{mirror, mirror_below}
use Rattle.vic_tree.proofs.range_set.RangeSetOpenSet.without.Goals as goal

pub returns : goal.returns
returns c u i = c.in_ok-ranges.ensures.keys (mirror u) (mirror_below 56 u)
