use Rattle.vic_sets.proofs.Words.{◌≡◌, ℕ, ◌⊎◌, inl, inr, false, arith, rules, open_at, IsAtMost, IsWidestOf, with_low_bit}
use Rattle.vic_sets.proofs.WidestLaws.{half_widest, none_passes, one_half, zero_half}
use Rattle.vic_sets.proofs.widest.+widest_below.Goals as goal

pub returns-in-None-Some-clause-found : goal.returns-in-None-Some-clause-found
returns-in-None-Some-clause-found t c =
    let zero = open_at c.in-Fork.halves.value.zero in
    let one = open_at c.in-Fork.halves.value.one in
    let none : (u : ℕ) → zero u ≡ false = rw c.deref.ensures at (rw c.in-None-Some.is-0 at c.widest_below.ensures.none) in
    rw (c.in-Fork.is, c.lengthened.ensures) (half_widest c.in-Fork.halves one zero 1 c.in-None-Some.one (rw c.in-Fork.is at c.requires.reduced) (omega arith) (one_half zero one) (zero_half zero one) (rw c.deref-in-Fork.ensures at c.in-None-Some.ensures.found) (λ n fits h. none_passes zero n none fits h))

pub returns-in-Some-None-clause-found : goal.returns-in-Some-None-clause-found
returns-in-Some-None-clause-found t c =
    let zero = open_at c.in-Fork.halves.value.zero in
    let one = open_at c.in-Fork.halves.value.one in
    let none : (u : ℕ) → one u ≡ false = rw c.deref-in-Fork.ensures at c.in-Some-None.ensures'.none in
    rw (c.in-Fork.is, c.lengthened-in-Some-None.ensures) (half_widest c.in-Fork.halves zero one 0 c.in-Some-None.zero (rw c.in-Fork.is at c.requires.reduced) (omega arith) (zero_half zero one) (one_half zero one) (rw c.deref.ensures at c.in-Some-None.ensures.found) (λ n fits h. none_passes one n none fits h))

pub returns-in-Some-Some-clause-found : goal.returns-in-Some-Some-clause-found
returns-in-Some-Some-clause-found t c =
    let p = open_at c.in-Fork.halves.value.zero in
    let q = open_at c.in-Fork.halves.value.one in
    let zero = c.in-Some-Some.zero in
    let one = c.in-Some-Some.one in
    let reduced = rw c.in-Fork.is at c.requires.reduced in
    let of_zero : IsWidestOf p zero = rw c.deref.ensures at c.in-Some-Some.ensures.found in
    let of_one : IsWidestOf q one = rw c.deref-in-Fork.ensures at c.in-Some-Some.ensures'.found in
    let least : IsAtMost c.min.result (with_low_bit 0 zero) × IsAtMost c.min.result (with_low_bit 1 one) = search rules in
    let which : (c.min.result ≡ with_low_bit 0 zero) ⊎ (c.min.result ≡ with_low_bit 1 one) = search rules in
    rw c.in-Fork.is (elim which [
      | inl is ↦ let h = rw is at least.1 in rw is (half_widest c.in-Fork.halves p q 0 zero reduced (omega arith) (zero_half p q) (one_half p q) of_zero (λ n fits w. let g = of_one.least n fits w in (omega (arith, g.0, h.0), λ e. omega (arith, g.0, g.1, h.0, h.1))))
      | inr is ↦ let h = rw is at least.0 in rw is (half_widest c.in-Fork.halves q p 1 one reduced (omega arith) (one_half p q) (zero_half p q) of_one (λ n fits w. let g = of_zero.least n fits w in (omega (arith, g.0, h.0), λ e. omega (arith, g.0, g.1, h.0, h.1))))
    ])
