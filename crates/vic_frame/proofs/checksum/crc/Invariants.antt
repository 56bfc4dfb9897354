use Rattle.vic_frame.proofs.Words.{◌≡◌, ◌*◌, drop, bits}
use Rattle.vic_frame.specs.Crc as spec
use Rattle.vic_frame.proofs.checksum.crc.Given as goal

abbrev pub invariant-loop-i : goal.invariant-loop-i
invariant-loop-i l = spec.after_bits l.register (bits (drop (2 * l.i) l.bytes)) ≡ spec.register l.bytes
