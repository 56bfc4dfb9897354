use Rattle.std.proofs.Common.{◌≡◌, ◌∙◌, ℕ, ◌-◌, ◌*◌, ◌^◌, ◌%◌, ◌≤◌, ap, arith, pow_mono, sym}
use Rattle.vic_object.proofs.Searched.{behind_tells, found_exactly, none_left}
use Rattle.vic_object.proofs.asking.has_middle_in.Goals as goal

size : (l : ℕ) → 1 * 2 ^ (56 - l) % 18446744073709551616 ≡ 2 ^ (56 - l)
size l = let most : 2 ^ (56 - l) ≤ 2 ^ 56 = pow_mono {j = 56} (omega arith) in omega (arith, most)

pub overflow_mul-end : goal.overflow_mul-end
overflow_mul-end c =
    let most : 2 ^ (56 - c.len.result) ≤ 2 ^ 56 = pow_mono {j = 56} (omega arith) in
    let small = c.number-first.ensures.small in
    let value = c.number-first.ensures.value in
    omega (arith, most, small, value, size c.len.result)

pub returns-in-Ok-clause-value : goal.returns-in-Ok-clause-value
returns-in-Ok-clause-value c up = sym (found_exactly c.args.mask.now c.args.middles.now c.in-Ok.field-0 c.number-first.result (c.number-first.ensures.value ∙ c.first_key.ensures) up c.in-Ok.ensures.position)

pub returns-then-at-middles-clause-value : goal.returns-then-at-middles-clause-value
returns-then-at-middles-clause-value c up = behind_tells c.args.mask.now c.args.middles.now c.in-Err.at c.number-first.result _ (c.number-first.ensures.value ∙ c.first_key.ensures) (size c.len.result ∙ ap (λ (l : ℕ). 2 ^ (56 - l)) c.len.ensures.value) up c.in-Err.ensures.position c.if-at-middles.true

pub returns-else-at-middles-clause-value : goal.returns-else-at-middles-clause-value
returns-else-at-middles-clause-value c up = none_left c.args.mask.now c.args.middles.now c.in-Err.at c.number-first.result (c.number-first.ensures.value ∙ c.first_key.ensures) up c.in-Err.ensures.position c.if-at-middles.false
