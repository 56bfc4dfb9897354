use Rattle.vic_frame.proofs.Words.{◌≡◌, ◌+◌, ◌++◌, length, ◌-◌}
use Rattle.vic_frame.specs.Bytes as spec
use Rattle.vic_frame.proofs.bytes.push_number.Given as goal

abbrev pub invariant-loop-i : goal.invariant-loop-i
invariant-loop-i g l = (l.out.items ++ spec.bytes_of (l.count - l.i) l.rest ≡ l.initial.out.items ++ spec.bytes_of l.count l.number) × (length l.out.items ≡ length l.initial.out.items + l.i)
