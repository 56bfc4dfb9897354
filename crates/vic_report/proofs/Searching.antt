-- A search of rising numbers finds each of them, and nothing else.
use Rattle.std.proofs.Common.{IfOk}
use Rattle.vic_report.proofs.Words.{◌≡◌, ℕ, ◌<◌, ◌≤◌, inl, inr, sym, arith, false, List, length, get_or, Result, Ok, Err, MatchResult, is_ok, nat_cmp, nat_eq, eq-eqb, ne_eqb, ◌==◌, cases_lt, All-from_get_or, list_any_at, list_any_none, rising_order, searched, subst, IsBinarySearchResult, IsStrictlyIncreasing, has}

pub found_among : (xs : List ℕ) (x : ℕ) (r : Result ℕ ℕ) → IsBinarySearchResult (λ y. nat_cmp y x) xs r → IsStrictlyIncreasing xs → is_ok r ≡ has xs x
found_among xs x r h up = at_result r (searched xs x r h (rising_order xs up)) where
  at_result : (r : Result ℕ ℕ) → MatchResult r (λ i. (i < length xs) × (get_or xs i 0 ≡ x)) (λ i. (i ≤ length xs) × ((k : ℕ) → k < i → get_or xs k 0 < x) × ((k : ℕ) → i ≤ k → k < length xs → x < get_or xs k 0)) → is_ok r ≡ has xs x
  at_result (Ok i) f = sym (list_any_at (nat_eq x) xs i 0 f.0 (eq-eqb x (get_or xs i 0) (sym f.1)))
  at_result (Err i) f = sym (list_any_none (nat_eq x) xs (All-from_get_or (λ y. (x == y) ≡ false) xs 0 (λ k lt. ne_eqb x (get_or xs k 0) (elim (cases_lt k i) [
    | inl p ↦ let low = f.1 k p in (λ e. omega arith)
    | inr p ↦ let high = f.2 k p lt in (λ e. omega arith)
  ]))))

pub found_at : (xs : List ℕ) (x i : ℕ) (r : Result ℕ ℕ) → IsBinarySearchResult (λ y. nat_cmp y x) xs r → IsStrictlyIncreasing xs → r ≡ Ok i → (i < length xs) × (get_or xs i 0 ≡ x)
found_at xs x i r h up is = subst (λ o. IfOk o (λ k. (k < length xs) × (get_or xs k 0 ≡ x))) is (of_ok r (searched xs x r h (rising_order xs up))) where
  of_ok : (o : Result ℕ ℕ) → MatchResult o (λ k. (k < length xs) × (get_or xs k 0 ≡ x)) (λ k. (k ≤ length xs) × ((j : ℕ) → j < k → get_or xs j 0 < x) × ((j : ℕ) → k ≤ j → j < length xs → x < get_or xs j 0)) → IfOk o (λ k. (k < length xs) × (get_or xs k 0 ≡ x))
  of_ok (Ok k) m = m
  of_ok (Err k) m = tt
