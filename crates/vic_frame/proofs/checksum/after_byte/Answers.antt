use Rattle.vic_frame.proofs.Words.{◌/◌, ◌∙◌, ap, arith, bit_xor, bits_of, after_bits}
use Rattle.vic_frame.proofs.CrcLaws.{byte_by_low}
use Rattle.vic_frame.proofs.checksum.after_byte.Goals as goal

pub returns : goal.returns
returns c =
    ap (bit_xor (c.args.register / 256)) c.low_after_byte.ensures
    ∙ byte_by_low c.args.register c.from.result (omega arith)
    ∙ ap (λ b. after_bits c.args.register (bits_of 8 b)) c.from.ensures
