-- The members of a list that fail a test.
use Rattle.vic_verdict.proofs.Words.{⊎_elim, ◌≤◌, ◌∙◌, ◌≡◌, ℕ, ◌<◌, List, [], ◌∷◌, length, get_or, Bool, true, not, sym, subst, arith, nat_tests, ◌↔◌, MatchOption, slice_get, filter, eq-eqb, eqb-true, nat_eq, IsStrictlyIncreasing, false≢true, has, has_here, has_filter, IsFailing, IsListOf, IsLeast, NoSuch, Any-from_list_any, list_any_at, get_or_default, filter_has, IsStrictlyIncreasing-filter, AllPairs-from_increasing, cases_eq, le_of_lt, ap}

pub rising_order : (xs : List ℕ) → IsStrictlyIncreasing xs → (i j : ℕ) → i ≤ j → j < length xs → get_or xs i 0 ≤ get_or xs j 0
rising_order xs r i j le lt =
    ⊎_elim (λ e. omega (arith, ap (λ n. get_or xs n 0) e)) (λ ne. le_of_lt (AllPairs-from_increasing xs r i j 0 (omega arith) lt)) (cases_eq i j)

-- a member has a position
pub place_of : (us : List ℕ) (u d : ℕ) → has us u ≡ true → (k : ℕ) × (k < length us) × (get_or us k d ≡ u)
place_of us u d h = let w = Any-from_list_any (nat_eq u) us h in (w.0, w.2, get_or_default us w.0 d w.1 w.2 ∙ (w.3 ∙ sym (eqb-true u w.1 w.4)))

pub member_at : (us : List ℕ) (k u d : ℕ) → k < length us → get_or us k d ≡ u → has us u ≡ true
member_at us k u d lt e = list_any_at (nat_eq u) us k d lt (eq-eqb u _ (sym e))

-- ---- lists of those that fail

-- those of a rising list
pub failing_list : (test : ℕ → Bool) (us ys : List ℕ) → IsStrictlyIncreasing us → ys ≡ filter (λ u. not (test u)) us → IsListOf (IsFailing us test) ys
failing_list test us ys rising is = subst (IsListOf (IsFailing us test)) (sym is) (record {
  rising = IsStrictlyIncreasing-filter (λ u. not (test u)) us rising;
  members = λ u. grind (arith, nat_tests, has_filter (λ v. not (test v)) us u, filter_has (λ v. not (test v)) us u);
})

-- the same property has the same list
pub list_as : (P Q : ℕ → Type 0) (ys : List ℕ) → ((u : ℕ) → P u ↔ Q u) → IsListOf P ys → IsListOf Q ys
list_as P Q ys same l = record {
  rising = l.rising;
  members = λ u. ((λ h. (same u).0 ((l.members u).0 h)), (λ q. (l.members u).1 ((same u).1 q)));
}

-- the first is the least
pub head_least : (P : ℕ → Type 0) (u : ℕ) (us : List ℕ) → IsListOf P (u ∷ us) → IsLeast P u
head_least P u us l =
    ((l.members u).0 (has_here u us), λ m h. grind (arith, place_of (u ∷ us) m 0 ((l.members m).1 h), rising_order (u ∷ us) l.rising 0))

pub none_of : (P : ℕ → Type 0) → IsListOf P [] → NoSuch P
none_of P l u h = false≢true ((l.members u).1 h)

pub first_is_least : (P : ℕ → Type 0) (us : List ℕ) → IsListOf P us → MatchOption (slice_get us 0) (NoSuch P) (IsLeast P)
first_is_least P [] l = none_of P l
first_is_least P (u ∷ us) l = head_least P u us l
