use Rattle.vic_tree.proofs.Words.{All-push, IsStretch}
use Rattle.vic_tree.proofs.spaced_keys.stretches_of.Goals as goal
use Rattle.vic_tree.proofs.spaced_keys.stretches_of.Goals.{then-first-last+in_ok-push, else-first-last}

pub loop-at-preserved : goal.loop-at-preserved
loop-at-preserved c = elim c.if-first-last.branch [
  | then-first-last+in_ok-push w ↦ rw (w.stretches-is, w.in_ok-push.ensures.items) (All-push (IsStretch c.args.keys.now) c.loop-at.stretches.items _ c.loop-at.invariant w.stretch_of.ensures)
  | else-first-last w ↦ rw w.stretches-is c.loop-at.invariant
]
