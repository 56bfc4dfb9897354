-- Lists read element by element.
use Rattle.vic_table.proofs.Words.{◌≡◌, ℕ, ◌+◌, ◌-◌, ◌<◌, ◌≤◌, zero, suc, List, [], ◌∷◌, Bool, true, false, ◌&&◌, ◌||◌, Some, None, refl, ap, ◌∙◌, arith, take, drop, length, slice_get, get_or, nat_lt, cond-true, cond-false, lt-ltb, le-ltb, cases_lt, inl, inr, list_all, list_any, list_all_more, list_any_more, list_all_at, list_any_at, slice_get_within, get_or_from_slice_get}
use Rattle.std.specs.List.{count_by, position}
use Rattle.std.proofs.lemmas.List.Sums.{count_by_more_yes, count_by_more_no, position_or_len_is}

module _ {X : Type 0} (p : X → Bool) (xs : List X) (i : ℕ) (x : X) (at : slice_get xs i ≡ Some x) where
  pub list_all_next : list_all p (take (i + 1) xs) ≡ (list_all p (take i xs) && p x)
  list_all_next = list_all_more p xs i x (slice_get_within xs i x at) ∙ ap (λ y. list_all p (take i xs) && p y) (get_or_from_slice_get xs i x x at)

  pub list_any_next : list_any p (take (i + 1) xs) ≡ (list_any p (take i xs) || p x)
  list_any_next = list_any_more p xs i x (slice_get_within xs i x at) ∙ ap (λ y. list_any p (take i xs) || p y) (get_or_from_slice_get xs i x x at)

  pub list_all_fails : p x ≡ false → list_all p xs ≡ false
  list_all_fails h = list_all_at p xs i x (slice_get_within xs i x at) (ap p (get_or_from_slice_get xs i x x at) ∙ h)

  pub list_any_holds : p x ≡ true → list_any p xs ≡ true
  list_any_holds h = list_any_at p xs i x (slice_get_within xs i x at) (ap p (get_or_from_slice_get xs i x x at) ∙ h)

module _ {X : Type 0} (p : X → Bool) (xs : List X) (i : ℕ) (x : X) (at : slice_get xs i ≡ Some x) where
  pub count_by-yes : p x ≡ true → count_by p (take (i + 1) xs) ≡ count_by p (take i xs) + 1
  count_by-yes h = count_by_more_yes p xs i x (slice_get_within xs i x at) (ap p (get_or_from_slice_get xs i x x at) ∙ h)

  pub count_by-no : p x ≡ false → count_by p (take (i + 1) xs) ≡ count_by p (take i xs)
  count_by-no h = count_by_more_no p xs i x (slice_get_within xs i x at) (ap p (get_or_from_slice_get xs i x x at) ∙ h)

  pub position-here : (d : X) → p x ≡ true → ((k : ℕ) → k < i → p (get_or xs k d) ≡ false) → position p xs ≡ Some i
  position-here d h before =
      let low = slice_get_within xs i x at in
      let is = position_or_len_is p xs i d (omega arith) before (λ _. ap p (get_or_from_slice_get xs i x d at) ∙ h) in
      rw is (cond-true (nat_lt i (length xs)) (Some i) None (lt-ltb i (length xs) low))

  pub fails_upto : (d : X) → p x ≡ false → ((k : ℕ) → k < i → p (get_or xs k d) ≡ false) → (k : ℕ) → k < i + 1 → p (get_or xs k d) ≡ false
  fails_upto d h before k low = elim (cases_lt k i) [
    | inl below ↦ before k below
    | inr above ↦ let same : k ≡ i = omega arith in rw same (ap p (get_or_from_slice_get xs i x d at) ∙ h)
  ]

pub position-none : {X : Type 0} (p : X → Bool) (xs : List X) (d : X) → ((k : ℕ) → k < length xs → p (get_or xs k d) ≡ false) → position p xs ≡ None
position-none p xs d none =
    let is = position_or_len_is p xs (length xs) d (omega arith) none (λ lt. absurd (omega arith)) in
    rw is (cond-false (nat_lt (length xs) (length xs)) (Some (length xs)) None (le-ltb (length xs) (length xs) (omega arith)))

-- ---- a part of a list

pub slice_get-drop : {X : Type 0} (xs : List X) (n i : ℕ) → slice_get (drop n xs) i ≡ slice_get xs (n + i)
slice_get-drop xs zero i = let e : 0 + i ≡ i = omega arith in rw e refl
slice_get-drop [] (suc n) i = refl
slice_get-drop (x ∷ xs) (suc n) i = let e : suc n + i ≡ suc (n + i) = omega arith in rw e (slice_get-drop xs n i)

pub slice_get-take : {X : Type 0} (xs : List X) (n i : ℕ) → i < n → slice_get (take n xs) i ≡ slice_get xs i
slice_get-take xs zero i h = absurd (omega arith)
slice_get-take [] (suc n) i h = refl
slice_get-take (x ∷ xs) (suc n) zero h = refl
slice_get-take (x ∷ xs) (suc n) (suc i) h = slice_get-take xs n i (omega arith)

pub slice_get-drop_at : {X : Type 0} (xs : List X) (n i : ℕ) (x : X) → n ≤ i → slice_get xs i ≡ Some x → slice_get (drop n xs) (i - n) ≡ Some x
slice_get-drop_at xs n i x h at = let e : n + (i - n) ≡ i = omega arith in slice_get-drop xs n (i - n) ∙ rw e at
