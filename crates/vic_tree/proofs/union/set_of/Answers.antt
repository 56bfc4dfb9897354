use Rattle.vic_tree.proofs.Words.{◌∙◌, ap, not, mirror, mirror_below, not-not}
use Rattle.vic_tree.proofs.RangeLaws.{firsts_rise}
use Rattle.vic_tree.proofs.union.set_of.Goals as goal

pub complement_in_order-requires : goal.complement_in_order-requires
complement_in_order-requires c = firsts_rise 0 _ c.in_ok-complement.ensures.ranges

pub returns : goal.returns
returns c u i =
    let k = mirror u in
    let small = mirror_below 56 u in
    c.in_ok-ranges.ensures.keys k small ∙ ap not (c.in_ok-complement.ensures.keys k small) ∙ not-not _
