-- How many positions pass a test.
use Rattle.vic_margin.proofs.Words.{◌≡◌, ℕ, zero, suc, ◌+◌, ◌<◌, ◌≤◌, ◌||◌, Bool, true, false, List, [], ◌∷◌, length, nat_eq, nat_lt, if◌then◌else◌, ◌&&◌, inl, inr, refl, ap, ◌∙◌, arith, nat_tests, cases_Bool, cases_eq, cases_lt, has, Entry, is_overlooked, margin_before, one_if}

-- how many of the first n
abbrev pub count_to : (ℕ → Bool) → ℕ → ℕ
count_to test zero = 0
count_to test (suc n) = count_to test n + one_if (test n)

pub margin_count : (es : List Entry) (n u : ℕ) → margin_before es n u ≡ count_to (λ i. is_overlooked es i u) n
margin_count es zero u = refl
margin_count es (suc n) u = ap (λ m. m + one_if (is_overlooked es n u)) (margin_count es n u)

more_by_one : (a b : Bool) → (a ≡ true → b ≡ true) → one_if a ≤ one_if b
more_by_one true b h = rw (h refl) (omega arith)
more_by_one false b h = omega arith

pub count_more : (a b : ℕ → Bool) (n : ℕ) → ((i : ℕ) → a i ≡ true → b i ≡ true) → count_to a n ≤ count_to b n
count_more a b zero h = omega arith
count_more a b (suc n) h = let one = more_by_one (a n) (b n) (h n) in let rest = count_more a b n h in omega arith

count_one : (x n : ℕ) → count_to (λ i. nat_eq i x) n ≡ one_if (nat_lt x n)
count_one x zero = grind (arith, nat_tests)
count_one x (suc n) = let rest = count_one x n in grind (arith, nat_tests, rest)

or_both : (a b : Bool) → one_if (a || b) ≤ one_if a + one_if b
or_both true b = omega arith
or_both false b = omega arith

count_both : (a b : ℕ → Bool) (n : ℕ) → count_to (λ i. a i || b i) n ≤ count_to a n + count_to b n
count_both a b zero = omega arith
count_both a b (suc n) = let one = or_both (a n) (b n) in let rest = count_both a b n in omega arith

count_none : (n : ℕ) → count_to (λ i. false) n ≡ 0
count_none zero = refl
count_none (suc n) = let rest = count_none n in omega arith

one_at_most : (b : Bool) → one_if b ≤ 1
one_at_most true = omega arith
one_at_most false = omega arith

-- in a list there are no more positions than it is long
pub count_listed : (places : List ℕ) (n : ℕ) → count_to (has places) n ≤ length places
count_listed [] n = let none = count_none n in omega arith
count_listed (x ∷ places) n =
    let one = count_one x n in
    let few = one_at_most (nat_lt x n) in
    let both = count_both (λ i. nat_eq i x) (has places) n in
    let rest = count_listed places n in
    omega arith

-- none passes
pub none_counted : (test : ℕ → Bool) (n : ℕ) → ((i : ℕ) → test i ≡ false) → count_to test n ≡ 0
none_counted test zero h = refl
none_counted test (suc n) h = let rest = none_counted test n h in rw (h n) (omega arith)

pub fails_each : (test : ℕ → Bool) (n i : ℕ) → count_to test n ≡ 0 → i < n → test i ≡ false
fails_each test zero i h lt = absurd (omega (arith, lt))
fails_each test (suc n) i h lt = elim (cases_lt i n) [
  | inl earlier ↦ fails_each test n i (omega (arith, h)) earlier
  | inr here ↦
      let same : n ≡ i = omega (arith, lt, here) in
      elim (cases_Bool (test i)) [
        | inl it ↦ let t : test n ≡ true = ap test same ∙ it in let one : one_if (test n) ≡ 1 = rw t refl in absurd (omega (arith, h, one))
        | inr isnt ↦ isnt
      ]
]

-- ---- the positions that pass

abbrev pub passing : (ℕ → Bool) → ℕ → List ℕ
passing test zero = []
passing test (suc n) = if test n then n ∷ passing test n else passing test n

pub length_passing : (test : ℕ → Bool) (n : ℕ) → length (passing test n) ≡ count_to test n
length_passing test zero = refl
length_passing test (suc n) = let rest = length_passing test n in elim (cases_Bool (test n)) [
  | inl it ↦ rw it (omega arith)
  | inr isnt ↦ rw isnt (omega arith)
]

pub has_passing : (test : ℕ → Bool) (n i : ℕ) → has (passing test n) i ≡ (nat_lt i n && test i)
has_passing test zero i = grind (arith, nat_tests)
has_passing test (suc n) i = let rest = has_passing test n i in elim (cases_Bool (test n)) [
  | inl it ↦ rw it (elim (cases_eq i n) [
    | inl here ↦ rw (here, it) (grind (arith, nat_tests))
    | inr other ↦ grind (arith, nat_tests, rest)
  ])
  | inr isnt ↦ rw isnt (elim (cases_eq i n) [
    | inl here ↦ rw (here, isnt) (let r = has_passing test n n in grind (arith, nat_tests, r, isnt))
    | inr other ↦ grind (arith, nat_tests, rest)
  ])
]
