use Rattle.vic_frame.proofs.Words.{◌/◌, ◌∙◌, ap, arith, bit_xor, bits_of, after_bits}
use Rattle.vic_frame.proofs.CrcLaws.{two_bytes_by_low}
use Rattle.vic_frame.proofs.checksum.after_two_bytes.Goals as goal

pub returns : goal.returns
returns c =
    let r = c.args.register in
    ap (bit_xor c.low_after_two_bytes.result) c.low_after_byte.ensures
    ∙ ap (λ x. bit_xor x (after_bits (bit_xor (r / 256) c.args.second) (bits_of 8 0))) c.low_after_two_bytes.ensures
    ∙ two_bytes_by_low r c.from.result c.args.second (omega arith) (omega arith)
    ∙ ap (λ a. after_bits (after_bits r (bits_of 8 a)) (bits_of 8 c.args.second)) c.from.ensures
