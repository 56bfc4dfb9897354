use Rattle.vic_field.proofs.Words.{◌≡◌, ◌<◌, ◌-◌, ◌∙◌, List, ℕ, get_or, sym, arith, nat_cmp, leb-true, ltb-true, AreRisingKeys, IsStrictlySortedBy}
use Rattle.vic_field.proofs.RowLaws.{between}
use Rattle.vic_field.proofs.row.Row.is_between.Goals as goal
use Rattle.vic_field.proofs.row.Row.is_between.Goals.{then-from-eq0, else-from-eq0}

order : {xs ks : List ℕ} → ks ≡ xs → AreRisingKeys xs → IsStrictlySortedBy nat_cmp ks
order is keys = rw is keys.rising

pub returns-then-to-keys : goal.returns-then-to-keys
returns-then-to-keys c _ =
    let ks = c.as_slice-keys.result.now in
    let end = c.if-to-keys.true in
    let low : 0 < c.args.from → get_or ks (c.args.from - 1) 0 < c.args.key = elim c.if-from-eq0.branch [
      | then-from-eq0 w ↦ let first = w.if-from-eq0.true in λ some. absurd (omega (arith, first, some))
      | else-from-eq0 w ↦ λ _. ltb-true _ _ (sym w.value-is ∙ c.if-keys-from.true)
    ] in
    rw (← c.as_slice-keys.ensures.value) (between ks c.args.key c.args.from c.args.to (order c.as_slice-keys.ensures.value c.args.self.now.rising) (omega (arith, c.if-to-from.false)) (omega (arith, c.if-keys-to.false)) low (λ less. absurd (omega (arith, end, less))))

pub returns-else-to-keys : goal.returns-else-to-keys
returns-else-to-keys c up =
    let ks = c.as_slice-keys.result.now in
    let low : 0 < c.args.from → get_or ks (c.args.from - 1) 0 < c.args.key = elim c.if-from-eq0.branch [
      | then-from-eq0 w ↦ let first = w.if-from-eq0.true in λ some. absurd (omega (arith, first, some))
      | else-from-eq0 w ↦ λ _. ltb-true _ _ (sym w.value-is ∙ c.if-keys-from.true)
    ] in
    rw (← c.as_slice-keys.ensures.value) (between ks c.args.key c.args.from c.args.to (order c.as_slice-keys.ensures.value c.args.self.now.rising) (omega (arith, c.if-to-from.false)) (omega (arith, c.if-keys-to.false)) low (λ _. leb-true _ _ up))
