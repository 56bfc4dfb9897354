-- A search over the numbers below a bound, to decide, and never to be run.
use Rattle.vic_verdict.proofs.Words.{◌≡◌, ℕ, zero, suc, ◌<◌, Bool, true, false, arith, inl, inr, ⊎_elim, ◌⊎◌, ◌↔◌, cases_Bool, cases_lt, both_ways, IsLeast, NoSuch}

-- P holds or it doesn't
abbrev pub Either : Type 0 → Type 0
Either P = P ⊎ (P → ⊥)

pub test_either : (b : Bool) → Either (b ≡ true)
test_either b = ⊎_elim (λ h. inl h) (λ h. inr (λ k. both_ways b h k)) (cases_Bool b)

pub false_either : (b : Bool) → Either (b ≡ false)
false_either b = ⊎_elim (λ h. inr (λ k. both_ways b k h)) (λ h. inl h) (cases_Bool b)

pub not_either : {P : Type 0} → Either P → Either (P → ⊥)
not_either e = ⊎_elim (λ h. inr (λ k. k h)) (λ h. inl h) e

pub and_either : {P Q : Type 0} → Either P → Either Q → Either (P × Q)
and_either e f = ⊎_elim (λ h. ⊎_elim (λ k. inl (h, k)) (λ no. inr (λ w. no w.1)) f) (λ no. inr (λ w. no w.0)) e

pub iff_either : {P Q : Type 0} → P ↔ Q → Either Q → Either P
iff_either w e = ⊎_elim (λ h. inl (w.1 h)) (λ no. inr (λ h. no (w.0 h))) e

pub least_by : (P : ℕ → Type 0) (k : ℕ) → P k → ((j : ℕ) → j < k → P j → ⊥) → IsLeast P k
least_by P k p none = (p, λ m h. ⊎_elim (λ below. absurd (none m below h)) (λ le. le) (cases_lt m k))

-- the least number of which P holds, or it holds of none below n
first_below : (P : ℕ → Type 0) → ((k : ℕ) → Either (P k)) → (n : ℕ) → ((k : ℕ) × IsLeast P k) ⊎ ((k : ℕ) → k < n → P k → ⊥)
first_below P d zero = inr (λ k h. absurd (omega arith))
first_below P d (suc n) = grind (arith, d n, least_by P n, first_below P d n)

-- the least number of which P holds, where it holds of one
pub least_of : (P : ℕ → Type 0) → ((k : ℕ) → Either (P k)) → (n : ℕ) → P n → (k : ℕ) × IsLeast P k
least_of P d n p = ⊎_elim (λ found. found) (λ none. absurd (none n (omega arith) p)) (first_below P d (suc n))

-- the least number of which P holds, where it holds only below n, or there is none
pub least_or_none : (P : ℕ → Type 0) → ((k : ℕ) → Either (P k)) → (n : ℕ) → ((k : ℕ) → P k → k < n) → ((k : ℕ) × IsLeast P k) ⊎ NoSuch P
least_or_none P d n b = ⊎_elim (λ found. inl found) (λ none. inr (λ k p. none k (b k p) p)) (first_below P d n)

-- whether P holds of a number, where it holds only below n
pub some_either : (P : ℕ → Type 0) → ((k : ℕ) → Either (P k)) → (n : ℕ) → ((k : ℕ) → P k → k < n) → Either ((k : ℕ) × P k)
some_either P d n b = ⊎_elim (λ found. inl (found.0, found.1.0)) (λ none. inr (λ h. none h.0 h.1)) (least_or_none P d n b)
