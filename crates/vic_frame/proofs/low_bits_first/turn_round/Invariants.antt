use Rattle.vic_frame.proofs.Words.{◌≡◌, ◌*◌, ◌/◌, ◌^◌, mirror_bits}
use Rattle.vic_frame.proofs.low_bits_first.turn_round.Given as goal

abbrev pub invariant-loop : goal.invariant-loop
invariant-loop l = (l.turned ≡ mirror_bits (8 * l.counter) l.number) × (l.rest ≡ l.number / 2 ^ (8 * l.counter))
