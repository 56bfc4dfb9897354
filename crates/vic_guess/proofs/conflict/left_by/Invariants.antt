use Rattle.std.proofs.Common.{length, ◌-◌}
use Rattle.vic_guess.proofs.conflict.left_by.Given as goal

abbrev pub decreases-loop-next : goal.decreases-loop-next
decreases-loop-next l = length l.by_last_line - l.next
