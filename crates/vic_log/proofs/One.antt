-- A text has one answer.
use Rattle.vic_log.proofs.Words.{◌≡◌, ◌⊎◌, inl, inr, ℕ, zero, suc, ◌<◌, Some, None, List, length, refl, arith, ⊎_elim, common_steps, cases_eq, LineFault, LogValue, version_of, log_upto, fault_on, IsFirstFault, IsLogOf}
use Rattle.vic_log.proofs.Passing.{clean_all}

pub one_line : (lines : List (List ℕ)) (n m : ℕ) (f g : LineFault) → IsFirstFault lines n f → IsFirstFault lines m g → n ≡ m
one_line lines n m f g h k = grind (arith, common_steps)

pub one_fault : (lines : List (List ℕ)) (n m : ℕ) (f g : LineFault) → IsFirstFault lines n f → IsFirstFault lines m g → (n ≡ m) × (f ≡ g)
one_fault lines n m f g h k = let same = one_line lines n m f g h k in (same, cc (same, h.here, k.here))

pub not_both : (lines : List (List ℕ)) (n : ℕ) (f : LineFault) (log : LogValue) → IsFirstFault lines n f → IsLogOf lines log → ⊥
not_both lines n f log h k = let some = h.here in let none = k.no_fault n in cc

-- ---- there is an answer

-- the first fault of the lines 0 to k, or none of them has one
first_below : (lines : List (List ℕ)) (k : ℕ) → ((n : ℕ) × (f : LineFault) × IsFirstFault lines n f) ⊎ ((m : ℕ) → m < k → fault_on lines m ≡ None)
first_below lines zero = inr (λ m lt. absurd (omega arith))
first_below lines (suc k) = elim (first_below lines k) [
  | inl found ↦ inl found
  | inr clean ↦ (elim (fault_on lines k) as (λ o. fault_on lines k ≡ o → ((n : ℕ) × (f : LineFault) × IsFirstFault lines n f) ⊎ ((m : ℕ) → m < suc k → fault_on lines m ≡ None)) [
    | None ↦ λ e. inr (λ m lt. ⊎_elim (λ same. rw same e) (λ ne. clean m (omega arith)) (cases_eq m k))
    | Some f ↦ λ e. inl (k, f, record { here = e; first = clean })
  ]) refl
]

pub some_answer : (lines : List (List ℕ)) → ((n : ℕ) × (f : LineFault) × IsFirstFault lines n f) ⊎ ((log : LogValue) × IsLogOf lines log)
some_answer lines = ⊎_elim
    (λ found. inl found)
    (λ clean. inr (record { lines = log_upto lines (length lines); version = version_of lines }, record { no_fault = clean_all lines (suc (length lines)) (omega arith) (omega arith) (λ m le. clean m (omega arith)); all = refl; version = refl }))
    (first_below lines (suc (suc (length lines))))
