use Rattle.vic_frame.proofs.Words.{◌∙◌, ap, sym, arith}
use Rattle.vic_frame.proofs.BytesLaws.{table_to}
use Rattle.vic_frame.proofs.CrcLaws.{shifts, zero_steps}
use Rattle.vic_frame.proofs.checksum.low_after_byte.Goals as goal

pub returns : goal.returns
unfolding shifts
returns c = table_to (shifts 8) 256 c.from.result (omega arith) ∙ ap (shifts 8) c.from.ensures ∙ sym (zero_steps 8 c.args.low)
