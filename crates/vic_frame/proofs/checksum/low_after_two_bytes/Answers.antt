use Rattle.vic_frame.proofs.Words.{◌∙◌, ap, sym, arith}
use Rattle.vic_frame.proofs.BytesLaws.{table_to}
use Rattle.vic_frame.proofs.CrcLaws.{shifts, zero_steps}
use Rattle.vic_frame.proofs.checksum.low_after_two_bytes.Goals as goal

pub returns : goal.returns
unfolding shifts
returns c = table_to (shifts 16) 256 c.from.result (omega arith) ∙ ap (shifts 16) c.from.ensures ∙ sym (zero_steps 16 c.args.low)
