use Rattle.vic_tree.proofs.Words.{◌-◌, All, length, IsStretch}
use Rattle.vic_tree.proofs.spaced_keys.stretches_of.Given as goal

abbrev pub invariant-loop-at : goal.invariant-loop-at
invariant-loop-at l = All (IsStretch l.keys) l.stretches.items

abbrev pub decreases-loop-at : goal.decreases-loop-at
decreases-loop-at l = length l.all - l.at
