-- Lists of UIDs as sets.
use Rattle.vic_log.proofs.Words.{◌≡◌, ℕ, suc, ◌<◌, List, length, get_or, or_from, [], ◌∷◌, Bool, true, false, ◌&&◌, refl, sym, ap, ◌∙◌, inl, inr, ⊎_elim, ◌⊎◌, nat_eq, arith, nat_tests, filter, cases_eq, cases_Bool, cond_both, ne_eqb, eqb-true, eq-eqb, and_parts, and_from, or_cases, or_left, or_right, false≢true, IsUid, has, AreDifferent, IsPopulation, and_right, any-filter_same}

-- a set of numbers within another
abbrev pub IsWithin : (ℕ → Bool) → (ℕ → Bool) → Type 0
IsWithin s t = (u : ℕ) → s u ≡ true → t u ≡ true

pub eq_swapped : (a b : ℕ) → nat_eq a b ≡ nat_eq b a
eq_swapped a b = ⊎_elim (λ e. rw e refl) (λ n. ne_eqb a b n ∙ sym (ne_eqb b a (λ e. n (sym e)))) (cases_eq a b)

pub has_here : (u : ℕ) (us : List ℕ) → has (u ∷ us) u ≡ true
has_here u us = or_left _ _ (eq-eqb u u refl)

pub has_at : (u x : ℕ) (us : List ℕ) → u ≡ x → has (x ∷ us) u ≡ true
has_at u x us e = or_left _ _ (eq-eqb u x e)

pub has_there : (u x : ℕ) (us : List ℕ) → has us u ≡ true → has (x ∷ us) u ≡ true
has_there u x us h = or_right _ _ h

pub has_cases : (u x : ℕ) (us : List ℕ) → has (x ∷ us) u ≡ true → (u ≡ x) ⊎ (has us u ≡ true)
has_cases u x us h = ⊎_elim (λ e. inl (eqb-true u x e)) (λ k. inr k) (or_cases (nat_eq u x) (has us u) h)

-- what is at no place isn't there
pub none_has : (us : List ℕ) (u : ℕ) → ((k : ℕ) → k < length us → get_or us k 0 ≡ u → ⊥) → has us u ≡ false
none_has [] u none = refl
none_has (x ∷ us) u none = or_from (nat_eq u x) (has us u) (ne_eqb u x (λ e. none 0 (omega arith) (sym e))) (none_has us u (λ k lt e. none (suc k) (omega arith) e))

-- a filter keeps what passes
has-filter : (t : ℕ → Bool) (us : List ℕ) (u : ℕ) → has (filter t us) u ≡ (t u && has us u)
has-filter t us u = any-filter_same (nat_eq u) t (t u) (λ k e. ap t (sym (eqb-true u k e))) us

pub has_filter : (t : ℕ → Bool) (us : List ℕ) → IsWithin (has (filter t us)) (λ u. has us u && t u)
has_filter t us u h = let w = and_parts (t u) (has us u) (sym (has-filter t us u) ∙ h) in and_from _ _ w.1 w.0

pub filter_has : (t : ℕ → Bool) (us : List ℕ) → IsWithin (λ u. has us u && t u) (has (filter t us))
filter_has t us u h = let w = and_parts (has us u) (t u) h in has-filter t us u ∙ and_from _ _ w.1 w.0

pub AreDifferent-population : (us : List ℕ) → IsPopulation us → AreDifferent us
AreDifferent-population [] h = tt
AreDifferent-population (u ∷ us) h = (h.1, AreDifferent-population us h.2)

pub AreDifferent-filter : (t : ℕ → Bool) (us : List ℕ) → AreDifferent us → AreDifferent (filter t us)
AreDifferent-filter t [] d = tt
AreDifferent-filter t (x ∷ us) d = grind (arith, nat_tests, cond_both, has-filter, and_right, AreDifferent-filter t us d.1)

pub IsUid-member : (us : List ℕ) (u : ℕ) → IsPopulation us → has us u ≡ true → IsUid u
IsUid-member [] u p h = absurd (false≢true h)
IsUid-member (x ∷ us) u p h = grind (arith, nat_tests, has_cases, IsUid-member us u p.2)

-- one member more, unless it is there
abbrev pub insert_if : Bool → ℕ → List ℕ → List ℕ
insert_if true u us = us
insert_if false u us = u ∷ us

abbrev pub with_member : ℕ → List ℕ → List ℕ
with_member u us = insert_if (has us u) u us

pub has_with_member : (u : ℕ) (us : List ℕ) → has (with_member u us) u ≡ true
has_with_member u us = elim (cases_Bool (has us u)) [ inl e ↦ rw e e | inr e ↦ rw e (has_here u us) ]

pub with_member_keeps : (u : ℕ) (us : List ℕ) → IsWithin (has us) (has (with_member u us))
with_member_keeps u us w h = elim (cases_Bool (has us u)) [ inl e ↦ rw e h | inr e ↦ rw e (has_there w u us h) ]

pub with_member_cases : (u : ℕ) (us : List ℕ) (w : ℕ) → has (with_member u us) w ≡ true → (w ≡ u) ⊎ (has us w ≡ true)
with_member_cases u us w h = elim (cases_Bool (has us u)) [ inl e ↦ inr (rw e at h) | inr e ↦ has_cases w u us (rw e at h) ]

pub IsPopulation-with_member : (u : ℕ) (us : List ℕ) → IsUid u → IsPopulation us → IsPopulation (with_member u us)
IsPopulation-with_member u us h p = elim (cases_Bool (has us u)) [ inl e ↦ rw e p | inr e ↦ rw e (h, e, p) ]
