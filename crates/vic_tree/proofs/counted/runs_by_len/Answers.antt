use Rattle.vic_tree.proofs.counted.runs_by_len.Goals as goal

pub loop-run-preserved : goal.loop-run-preserved
loop-run-preserved c = c.in-Some.ensures.rest _ c.loop-run.invariant
