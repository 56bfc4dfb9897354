-- Rising lists of numbers that are gone over side by side.
use Rattle.vic_verdict.proofs.Words.{◌≡◌, ℕ, ◌+◌, ◌<◌, ◌≤◌, ◌==◌, List, length, get_or, true, false, sym, ◌∙◌, arith, inl, inr, eq-eqb, eqb-true, get_or_default, IsStrictlyIncreasing, false_from_ne_true, cases_lt, has, same_tests}
use Rattle.vic_verdict.proofs.Failing.{member_at, place_of, rising_order}

-- the members before an index are below a number
abbrev pub AreBelow : List ℕ → ℕ → ℕ → Type 0
AreBelow us n u = (k : ℕ) → k < n → get_or us k 0 < u

-- and those from the index on aren't
pub record IsIndexOf (us : List ℕ) (n u : ℕ) : Type 0 where
  pub within : n ≤ length us
  pub below : AreBelow us n u
  pub above : n < length us → u ≤ get_or us n 0

-- a number that a rising list has is at its index
at_place : (us : List ℕ) (n u : ℕ) → IsStrictlyIncreasing us → IsIndexOf us n u → has us u ≡ true → (n < length us) × (get_or us n 0 ≡ u)
at_place us n u rising place e =
    let p = place_of us u 0 e in
    let within = p.1 in
    elim (cases_lt p.0 n) [
      | inl lt ↦ absurd (omega (arith, p.2, place.below p.0 lt))
      | inr ge ↦
          let short : n < length us = omega (arith, ge) in
          (short, omega (arith, p.2, place.above short, rising_order us rising n p.0 ge within))
    ]

pub is_here : (us : List ℕ) (n u x : ℕ) → IsStrictlyIncreasing us → IsIndexOf us n u → n < length us → x ≡ get_or us n x → (x == u) ≡ has us u
is_here us n u x rising place within is =
    let here : get_or us n 0 ≡ x = get_or_default us n 0 x within ∙ sym is in
    same_tests _ _ (λ e. member_at us n u 0 within (here ∙ eqb-true x u e)) (λ h. eq-eqb x u (sym here ∙ (at_place us n u rising place h).1))

pub is_past : (us : List ℕ) (n u : ℕ) → IsStrictlyIncreasing us → IsIndexOf us n u → length us ≤ n → has us u ≡ false
is_past us n u rising place past = false_from_ne_true _ (λ h. omega (arith, (at_place us n u rising place h).0))

-- a later member of another rising list comes after all before the position of an earlier one
pub below_next : (us vs : List ℕ) (i n u : ℕ) → IsStrictlyIncreasing us → i + 1 < length us → u ≡ get_or us i u → AreBelow vs n u → AreBelow vs n (get_or us (i + 1) 0)
below_next us vs i n u rising short is below k lt =
    let here : get_or us i 0 ≡ u = get_or_default us i 0 u (omega arith) ∙ sym is in
    omega (arith, below k lt, rising i short)
