use Rattle.vic_frame.proofs.Words.{◌≡◌, ◌+◌, ◌-◌, ◌*◌, ◌∙◌, length, slice_index, ap, sym, arith, bits_of, after_bits, register}
use Rattle.vic_frame.proofs.CrcLaws.{after-next, after-end}
use Rattle.vic_frame.proofs.checksum.crc.Goals as goal
use Rattle.vic_frame.proofs.checksum.crc.Goals.{then-bytes-eq1, else-bytes-eq1}

pub loop-i-preserved : goal.loop-i-preserved
loop-i-preserved c =
    let xs = c.args.bytes.now in
    let r = c.loop-i.register in
    let i = c.loop-i.i in
    let one = after_bits r (bits_of 8 (slice_index xs (2 * i))) in
    let place : 2 * (i + 1) ≡ 2 * i + 1 + 1 = omega arith in
    rw (c.after_two_bytes-register.ensures, place, ← (after-next one xs (2 * i + 1) (omega arith)), ← (after-next r xs (2 * i) (omega arith))) c.loop-i.invariant

pub returns : goal.returns
returns c =
    let xs = c.args.bytes.now in
    let r = c.loop-i.register in
    let i = c.loop-i.i in
    let end : c.if-bytes-eq1.register ≡ register xs = elim c.if-bytes-eq1.branch [
      | then-bytes-eq1 w ↦
          let last : length xs - 1 ≡ 2 * i = omega arith in
          w.register-is ∙ w.after_byte-register.ensures
          ∙ ap (λ k. after_bits r (bits_of 8 (slice_index xs k))) last
          ∙ sym (after-next r xs (2 * i) (omega arith) ∙ after-end _ xs (2 * i + 1) (omega arith))
          ∙ c.loop-i.invariant
      | else-bytes-eq1 w ↦ w.register-is ∙ sym (after-end r xs (2 * i) (omega arith)) ∙ c.loop-i.invariant
    ] in
    ap (λ s. 0xFFFF - s) end
