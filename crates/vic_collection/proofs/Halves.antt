-- The logs in which UIDs are possible and not certain, by the halves of the logs.
use Rattle.vic_collection.proofs.Telling.{some_position}
use Rattle.vic_collection.proofs.Words.{not, get_or, slice_get-get_or, SurveyValue, suc, zero, slice_get, slice_get_within, ◌≡◌, ℕ, ◌+◌, ◌<◌, List, [], ◌∷◌, ◌++◌, Bool, true, false, ◌&&◌, ◌||◌, cond, Some, refl, sym, ap, ◌∙◌, arith, nat_eq, length, map, list_any, has, eqb-true, false≢true, nat_tests, or-false}
use Rattle.std.specs.List.{filter}
use Rattle.vic_tree.specs.Ranges.{is_open_in}
use Rattle.vic_collection.specs.Collections.{positions_from}

-- ---- positions

pub positions_from-append : {X : Type 0} (test : X → Bool) (k : ℕ) (xs ys : List X) → positions_from test k (xs ++ ys) ≡ positions_from test k xs ++ positions_from test (k + length xs) ys
positions_from-append test k [] ys = let e : k ≡ k + 0 = omega arith in ap (λ n. positions_from test n ys) e
positions_from-append {X} test k (x ∷ xs) ys = let e : (k + 1) + length xs ≡ k + length (x ∷ xs) = omega arith in rw (positions_from-append test (k + 1) xs ys, e) (go (test x)) where
  go : (b : Bool) → cond b (k ∷ (positions_from test (k + 1) xs ++ positions_from test (k + length (x ∷ xs)) ys)) (positions_from test (k + 1) xs ++ positions_from test (k + length (x ∷ xs)) ys)
      ≡ cond b (k ∷ positions_from test (k + 1) xs) (positions_from test (k + 1) xs) ++ positions_from test (k + length (x ∷ xs)) ys
  go true = refl
  go false = refl

pub positions_from-none : {X : Type 0} (test : X → Bool) (k : ℕ) (xs : List X) → list_any test xs ≡ false → positions_from test k xs ≡ []
positions_from-none test k [] none = refl
positions_from-none test k (x ∷ xs) none = go (test x) none (positions_from-none test (k + 1) xs) where
  go : (b : Bool) → (b || list_any test xs) ≡ false → (list_any test xs ≡ false → positions_from test (k + 1) xs ≡ []) → cond b (k ∷ positions_from test (k + 1) xs) (positions_from test (k + 1) xs) ≡ []
  go true e rest = absurd (false≢true (sym e))
  go false e rest = rest e

-- they depend on what the test says of each element alone
pub positions_from-map : {X : Type 0} (test : X → Bool) (k : ℕ) (xs : List X) → positions_from test k xs ≡ positions_from (λ (b : Bool). b) k (map test xs)
positions_from-map test k [] = refl
positions_from-map test k (x ∷ xs) = rw (positions_from-map test (k + 1) xs) refl

-- ---- UIDs that pass

pub has-filter : (p : ℕ → Bool) (us : List ℕ) (u : ℕ) → has (filter p us) u ≡ (has us u && p u)
has-filter p [] u = refl
has-filter p (v ∷ us) u = go (p v) (nat_eq u v) refl refl (has-filter p us u) where
  and_no : (b : Bool) → (b && false) ≡ false
  and_no true = refl
  and_no false = refl

  go : (b d : Bool) → p v ≡ b → nat_eq u v ≡ d → has (filter p us) u ≡ (has us u && p u) → has (cond b (v ∷ filter p us) (filter p us)) u ≡ ((d || has us u) && p u)
  go true true passes same rest = rw same (sym (ap p (eqb-true u v same) ∙ passes))
  go true false passes same rest = rw same rest
  go false true passes same rest = rest ∙ rw (ap p (eqb-true u v same) ∙ passes) (and_no (has us u))
  go false false passes same rest = rest

-- ---- what is noted

-- the logs of a UID among some, where it is looked for
abbrev pub noted : List (List (ℕ × ℕ)) → ℕ → List ℕ → ℕ → List ℕ
noted sets from us u = cond (has us u) (positions_from (λ set. is_open_in set u) from sets) []

pub none_noted : (sets : List (List (ℕ × ℕ))) (from : ℕ) (u : ℕ) → noted sets from [] u ≡ []
none_noted sets from u = refl

pub noted_in_none : (from : ℕ) (us : List ℕ) (u : ℕ) → noted [] from us u ≡ []
noted_in_none from us u = go (has us u) where
  go : (b : Bool) → cond {A = List ℕ} b [] [] ≡ []
  go true = refl
  go false = refl

-- those that are inside have the same, and the others have none
pub noted_inside : (sets : List (List (ℕ × ℕ))) (from : ℕ) (us : List ℕ) (p : ℕ → Bool) (u : ℕ) → p u ≡ list_any (λ set. is_open_in set u) sets → noted sets from (filter p us) u ≡ noted sets from us u
noted_inside sets from us p u is = rw (has-filter p us u) (go (p u) (has us u) refl) where
  go : (b d : Bool) → p u ≡ b → cond (d && b) (positions_from (λ set. is_open_in set u) from sets) [] ≡ cond d (positions_from (λ set. is_open_in set u) from sets) []
  go true true e = refl
  go true false e = refl
  go false true e = sym (positions_from-none (λ set. is_open_in set u) from sets (sym is ∙ e))
  go false false e = refl

-- of one set at most
pub noted_one : (sets : List (List (ℕ × ℕ))) (from : ℕ) (us : List ℕ) (p : ℕ → Bool) (u : ℕ) → length sets < 2 → p u ≡ list_any (λ set. is_open_in set u) sets → cond (has (filter p us) u) (from ∷ []) [] ≡ noted sets from us u
noted_one [] from us p u few is = rw (has-filter p us u, is) (go (has us u)) where
  go : (d : Bool) → cond (d && false) (from ∷ []) [] ≡ cond {A = List ℕ} d [] []
  go true = refl
  go false = refl
noted_one (set ∷ []) from us p u few is = rw (has-filter p us u, is, or-false (is_open_in set u)) (go (has us u) (is_open_in set u)) where
  go : (d b : Bool) → cond (d && b) (from ∷ []) [] ≡ cond d (cond b (from ∷ []) []) []
  go true b = refl
  go false b = refl
noted_one (set ∷ other ∷ sets) from us p u few is = absurd (omega (arith, few))

pub noted_both : (front back : List (List (ℕ × ℕ))) (from : ℕ) (us : List ℕ) (u : ℕ) → noted front from us u ++ noted back (from + length front) us u ≡ noted (front ++ back) from us u
noted_both front back from us u = rw (positions_from-append (λ set. is_open_in set u) from front back) (go (has us u)) where
  go : (b : Bool) → cond b (positions_from (λ set. is_open_in set u) from front) [] ++ cond b (positions_from (λ set. is_open_in set u) (from + length front) back) [] ≡ cond b (positions_from (λ set. is_open_in set u) from front ++ positions_from (λ set. is_open_in set u) (from + length front) back) []
  go true = refl
  go false = refl

-- ---- what is at a position

pub position_at : {X : Type 0} (test : X → Bool) (k : ℕ) (xs : List X) (i n : ℕ) → slice_get (positions_from test k xs) i ≡ Some n → (j : ℕ) × (n ≡ k + j) × ((x : X) × (slice_get xs j ≡ Some x) × (test x ≡ true))
position_at test k [] i n at = absurd (omega (arith, slice_get_within [] i n at))
position_at {X} test k (x ∷ xs) i n at = go (test x) refl i at (position_at test (k + 1) xs) where
  later : (i : ℕ) → ((j : ℕ) × (n ≡ (k + 1) + j) × ((y : X) × (slice_get xs j ≡ Some y) × (test y ≡ true))) → (j : ℕ) × (n ≡ k + j) × ((y : X) × (slice_get (x ∷ xs) j ≡ Some y) × (test y ≡ true))
  later i r = (suc r.0, (let e : n ≡ k + suc r.0 = omega (arith, r.1) in e), (r.2.0, r.2.1, r.2.2))

  go : (b : Bool) → test x ≡ b → (i : ℕ) → slice_get (cond b (k ∷ positions_from test (k + 1) xs) (positions_from test (k + 1) xs)) i ≡ Some n
      → ((i n : ℕ) → slice_get (positions_from test (k + 1) xs) i ≡ Some n → (j : ℕ) × (n ≡ (k + 1) + j) × ((y : X) × (slice_get xs j ≡ Some y) × (test y ≡ true)))
      → (j : ℕ) × (n ≡ k + j) × ((y : X) × (slice_get (x ∷ xs) j ≡ Some y) × (test y ≡ true))
  go true e zero at rest = let same : k ≡ n = cc in (0, (let sum : n ≡ k + 0 = omega (arith, same) in sum), (x, refl, e))
  go true e (suc i) at rest = later i (rest i n at)
  go false e i at rest = later i (rest i n at)

-- the first of them
pub first_position : (test : SurveyValue → Bool) (xs : List SurveyValue) → list_any test xs ≡ true → (0 < length (positions_from test 0 xs)) × (x : SurveyValue) × (slice_get xs (get_or (positions_from test 0 xs) 0 0) ≡ Some x) × (test x ≡ true)
first_position test xs some =
    let logs = positions_from test 0 xs in
    let several : 0 < length logs = above (length logs) (some_position test 0 xs ∙ some) in
    let p = position_at test 0 xs 0 (get_or logs 0 0) (slice_get-get_or logs 0 0 several) in
    let same : get_or logs 0 0 ≡ p.0 = omega (arith, p.1) in
    (several, p.2.0, ap (slice_get xs) same ∙ p.2.1, p.2.2) where
      above : (n : ℕ) → not (nat_eq n 0) ≡ true → 0 < n
      above n e = grind (arith, nat_tests, e)
