use Rattle.vic_frame.proofs.Words.{◌∙◌, ap, arith}
use Rattle.vic_frame.specs.LowBitsFirst.{mirror_bits}
use Rattle.vic_frame.proofs.BytesLaws.{table_to}
use Rattle.vic_frame.proofs.low_bits_first.turn_byte.Goals as goal

pub returns : goal.returns
unfolding mirror_bits
returns c = table_to (mirror_bits 8) 256 c.from.result (omega arith) ∙ ap (mirror_bits 8) c.from.ensures
