use Rattle.vic_log.proofs.Words.{ℕ, ◌+◌, ◌*◌, ◌<◌, slice_index, SpellsByte}
use Rattle.vic_log.proofs.decoding.decode_each.Given as goal

abbrev pub invariant-bytes : goal.invariant-bytes
invariant-bytes l = (k : ℕ) → k < l.i → SpellsByte (slice_index l.digits (2 * k)) (slice_index l.digits (2 * k + 1)) (slice_index l.bytes k)
