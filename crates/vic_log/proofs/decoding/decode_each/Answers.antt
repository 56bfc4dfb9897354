use Rattle.vic_log.proofs.Words.{◌+◌, ◌*◌, get_or, set, ap₂, sym, subst, ◌∙◌, arith, get_or-set_same, get_or-set_other, SpellsByte}
use borrow.Author.Count.{below_more}
use Rattle.vic_log.proofs.HexPairs.{spelled, no_digit}
use Rattle.vic_log.proofs.decoding.decode_each.Goals as goal
use Rattle.vic_log.proofs.decoding.decode_each.Goals.{then-high-gt15-via-then-high-gt15, then-high-gt15-via-else-high-gt15+then-low-gt15}

pub bytes-preserved : goal.bytes-preserved
bytes-preserved c =
    let s = c.args.digits.now in
    let bytes = c.bytes.bytes in
    let i = c.bytes.i in
    let v = c.digit_value-high.result * 16 + c.digit_value-low.result in
    below_more (λ k. SpellsByte (get_or s (2 * k) 0) (get_or s (2 * k + 1) 0) (get_or (set bytes i v) k 0)) i
    (λ k lt. subst (λ b. SpellsByte (get_or s (2 * k) 0) (get_or s (2 * k + 1) 0) b)
    (sym (get_or-set_other bytes i k v 0 (λ e. absurd (omega arith)))) (c.bytes.invariant k lt))
    (record {
      is_high = omega arith;
      is_low = omega arith;
      byte_is = get_or-set_same bytes i v 0 (omega arith) ∙ ap₂ (λ h l. h * 16 + l) c.digit_value-high.ensures c.digit_value-low.ensures;
    })

pub returns-then-high-gt15-clause-err : goal.returns-then-high-gt15-clause-err
returns-then-high-gt15-clause-err c = λ _. elim c.then-high-gt15.branch [
  | then-high-gt15-via-then-high-gt15 w ↦ no_digit c.args.digits.now (2 * c.bytes.i) (omega arith) (omega (arith, w.if-high-gt15.true))
  | then-high-gt15-via-else-high-gt15+then-low-gt15 w ↦ no_digit c.args.digits.now (2 * c.bytes.i + 1) (omega arith) (omega (arith, w.if-low-gt15.true))
]

pub returns-clause-ok : goal.returns-clause-ok
returns-clause-ok c = λ _. spelled c.args.digits.now c.bytes.bytes 0 (omega arith) (λ k lt. c.bytes.invariant k (omega arith))
