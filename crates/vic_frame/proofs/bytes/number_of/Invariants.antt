use Rattle.vic_frame.proofs.Words.{◌≡◌, ◌≤◌, length, drop}
use Rattle.vic_frame.specs.Bytes as spec
use Rattle.vic_frame.proofs.bytes.number_of.Given as goal

abbrev pub invariant-loop-i : goal.invariant-loop-i
invariant-loop-i l = (l.i ≤ length l.bytes) × (l.number ≡ spec.number_of (drop l.i l.bytes))

abbrev pub decreases-loop-i : goal.decreases-loop-i
decreases-loop-i l = l.i
