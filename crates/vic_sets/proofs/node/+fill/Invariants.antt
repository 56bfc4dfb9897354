use Rattle.vic_sets.proofs.node.+fill.Given as goal

abbrev pub decreases-fill : goal.decreases-fill
decreases-fill l = l.len
