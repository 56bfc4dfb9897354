use Rattle.vic_log.proofs.Words.{◌+◌, ◌-◌, ◌*◌, length, get_or, sym, subst, arith, inl, inr, cases_lt, SpellsByte}
use Rattle.vic_log.proofs.HexPairs.{spelled}
use Rattle.vic_log.proofs.decoding.decode_ends.Goals as goal

pub returns-then-bytes-eq-AT_ONCE-clause-ok : goal.returns-then-bytes-eq-AT_ONCE-clause-ok
returns-then-bytes-eq-AT_ONCE-clause-ok c = λ e.
    spelled c.args.digits.now _ 0 (omega arith) (λ k lt. c.decode_eight-begins.ensures.ok e k (omega arith) (omega arith))

pub returns-then-begins-clause-ok : goal.returns-then-begins-clause-ok
returns-then-begins-clause-ok c = λ e.
    let d = c.args.digits.now in
    spelled d _ 0 (omega arith) (λ k lt. elim (cases_lt k (length c.decode_eight-begins.new.bytes - 8)) [
      | inl early ↦
          subst (λ b. SpellsByte (get_or d (2 * k) 0) (get_or d (2 * k + 1) 0) b) (sym (c.decode_eight-ends.ensures.before k early))
          (c.decode_eight-begins.ensures.ok c.if-begins.true k (omega arith) (omega arith))
      | inr late ↦ c.decode_eight-ends.ensures.ok e k late (omega arith)
    ])
