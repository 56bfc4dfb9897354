use Rattle.vic_tree.proofs.Words.{◌<◌, ◌-◌, length}
use Rattle.vic_tree.proofs.sorted_keys.KeysAhead.pass_to.Given as goal

abbrev pub invariant-loop-bound : goal.invariant-loop-bound
invariant-loop-bound l = 0 < l.bound

abbrev pub decreases-loop-bound : goal.decreases-loop-bound
decreases-loop-bound l = length l.keys - l.bound
