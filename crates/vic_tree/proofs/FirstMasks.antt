-- Lists of masks in order, of which the last are left out.
use Rattle.vic_tree.proofs.Words.{◌≡◌, ◌==◌, ◌↔◌, Bool, true, min, ℕ, suc, zero, ◌+◌, ◌-◌, ◌<◌, ◌≤◌, ◌⊎◌, inl, inr, List, [], ◌∷◌, length, get_or, take, Some, Err, Ordering, Less, Greater, refl, sym, ap, subst, ◌∙◌, arith, AllPairs, Contains, insert, nat_cmp, eqb-true, get_or-take, length-take, take_min, take_all, pow_pos, is_eq, rules, eq-eqb, IsNonDecreasingBy, cases_lt, cases_eq, nat_tests, get_or_default, All-nil, All-weaker, BitMask, IsAtMost, IsWidest, AreFirst, IsOpenMask, parent, AreKept, IsBinarySearchResult, ordering_index, ordering_then, length-insert, All-cons, All-contains, All-take, Contains-append_cases, Contains-append_right, Contains-get_or, Contains-push_cases, AllPairs-cons, All-permutation, Contains-permutation, IsPermutation-insert, IsPermutation-sym, ComesBefore, IsPast, Keeps}

-- one element more in a list
module _ {X : Type 0} where
  Contains-insert : (xs : List X) (i : ℕ) (x y : X) → Contains xs y ⊎ (x ≡ y) → Contains (insert xs i x) y
  Contains-insert xs i x y h = Contains-permutation (x ∷ xs) (insert xs i x) y (IsPermutation-insert xs i x) (elim h [
    | inl old ↦ Contains-append_right (x ∷ []) xs y old
    | inr e ↦ (zero, omega arith, e)
  ])

  Contains-insert_cases : (xs : List X) (i : ℕ) (x y : X) → Contains (insert xs i x) y → Contains xs y ⊎ (x ≡ y)
  Contains-insert_cases xs i x y h = elim (Contains-append_cases (x ∷ []) xs y (Contains-permutation (insert xs i x) (x ∷ xs) y (IsPermutation-sym (x ∷ xs) (insert xs i x) (IsPermutation-insert xs i x)) h)) [
    | inl new ↦ elim (Contains-push_cases [] x y new) [ inl n ↦ absurd (let lt = n.1 in omega arith) | inr e ↦ inr e ]
    | inr old ↦ inl old
  ]

  AllPairs-insert : (R : X → X → Type 0) (xs : List X) (i : ℕ) (x : X) → AllPairs R xs → ((k : ℕ) (d : X) → 0 ≤ k → k < i → R (get_or xs k d) x) → ((k : ℕ) (d : X) → i ≤ k → k < length xs → R x (get_or xs k d)) → AllPairs R (insert xs i x)
  AllPairs-insert R xs zero x h lower upper = AllPairs-cons R x xs (λ k d lt. upper k d (omega arith) lt) h
  AllPairs-insert R [] (suc i) x h lower upper = AllPairs-cons R x [] (All-nil (R x)) h
  AllPairs-insert R (y ∷ ys) (suc i) x h lower upper =
      AllPairs-cons R y (insert ys i x)
      (All-permutation (R y) (x ∷ ys) (insert ys i x) (IsPermutation-insert ys i x) (All-cons (R y) x ys (lower zero x (omega arith) (omega arith)) (λ k d lt. h zero (suc k) d (omega arith) (omega arith))))
      (AllPairs-insert R ys i x (λ k j d lt within. h (suc k) (suc j) d (omega arith) (omega arith)) (λ k d from lt. lower (suc k) d (omega arith) (omega arith)) (λ k d from lt. upper (suc k) d (omega arith) (omega arith)))

-- the order of masks
pub same_mask : (a b : BitMask) → a.len ≡ b.len → a.value ≡ b.value → a ≡ b
same_mask a b len value = search rules

pub before_then : (a b c : BitMask) → ComesBefore a b → ComesBefore b c → ComesBefore a c
before_then a b c h k = grind arith

pub before_itself : (a : BitMask) → ComesBefore a a → ⊥
before_itself a h = let lt = h.1 refl in omega arith

abbrev pub mask_cmp : BitMask → BitMask → Ordering
mask_cmp a b = ordering_then (nat_cmp a.len b.len) (nat_cmp a.value b.value)

pub less_before : (a b : BitMask) → mask_cmp a b ≡ Less → ComesBefore a b
less_before a b e = (grind (arith, nat_tests), λ f. grind (arith, nat_tests))

greater_before : (a b : BitMask) → mask_cmp a b ≡ Greater → ComesBefore b a
greater_before a b e = (grind (arith, nat_tests), λ f. grind (arith, nat_tests))

pub equal_same : (a b : BitMask) → is_eq (mask_cmp a b) ≡ true → a ≡ b
equal_same a b e = same_mask a b (grind (arith, nat_tests)) (grind (arith, nat_tests))

index_rises : (a b m : BitMask) → ComesBefore a b → ordering_index (mask_cmp a m) ≤ ordering_index (mask_cmp b m)
index_rises a b m h = let le = h.0 in let lt = h.1 in grind (arith, nat_tests)

-- the index that a search of masks in order finds
rises : (ms : List BitMask) (m : BitMask) → AllPairs ComesBefore ms → IsNonDecreasingBy (λ x. ordering_index (mask_cmp x m)) ms
rises ms m up i j d le lt = elim (cases_lt i j) [
  | inl before ↦ index_rises (get_or ms i d) (get_or ms j d) m (up i j d before lt)
  | inr from ↦ let same : i ≡ j = omega arith in rw same (omega arith)
]

in_order : (ms : List BitMask) (m : BitMask) (i : ℕ) → AllPairs ComesBefore ms → IsBinarySearchResult (λ x. mask_cmp x m) ms (Err i) → AllPairs ComesBefore (insert ms i m)
in_order ms m i up found =
    let sides = found (rises ms m up) in
    AllPairs-insert ComesBefore ms i m up
    (λ k d from lt. less_before (get_or ms k d) m (sides.0 k d from lt))
    (λ k d from lt. greater_before (get_or ms k d) m (sides.1 k d from lt))

-- the first masks of a list in order
pub first_taken : (n most : ℕ) (P : BitMask → Type 0) (ms : List BitMask) → n ≤ most → AreFirst most P ms → AreFirst n P (take n ms)
first_taken n most P ms le f =
    let long = length-take n ms in
    record {
      rising = λ i j d lt within. rw (get_or-take n ms i d (omega arith), get_or-take n ms j d (omega arith)) (f.rising i j d lt (omega arith));
      wanted = All-take P n ms f.wanted;
      others = λ m p. elim (f.others m p) [
        | inl h ↦ elim (cases_lt h.0 n) [
          | inl lt ↦ inl (h.0, omega (arith, h.1), get_or-take n ms h.0 m lt ∙ h.2)
          | inr from ↦ inr (
            omega (arith, h.1),
            λ k d lt. rw (get_or-take n ms k d (omega arith)) (subst (ComesBefore (get_or ms k d)) (get_or_default ms h.0 d m h.1 ∙ h.2) (f.rising k h.0 d (omega arith) h.1)),
          )
        ]
        | inr past ↦ inr (omega (arith, past.0), All-take (λ x. ComesBefore x m) n ms past.1)
      ];
    }

-- a mask more is kept at its index, and the last one of too many left out
pub one_kept : (ms : List BitMask) (m : BitMask) (i : ℕ) → AreKept ms → i ≤ length ms → IsBinarySearchResult (λ x. mask_cmp x m) ms (Err i) → Keeps (λ n. Some m ≡ Some n) ms (take 17 (insert ms i m)) × AreKept (take 17 (insert ms i m))
one_kept ms m i kept le found = (
  record {
    first = first;
    past = λ n h. (omega (arith, h.0, front, long), λ k d lt. let below : k < 17 = omega (arith, front) in rw (get_or-take 17 more k d below) (passed n h k d below));
  },
  (first.rising, omega (arith, front)),
) where
  more : List BitMask
  more = insert ms i m

  long : length more ≡ length ms + 1
  long = length-insert ms i m le

  front : length (take 17 more) ≡ min 17 (length more)
  front = length-take 17 more

  up : AllPairs ComesBefore more
  up = in_order ms m i kept.0 found

  first : AreFirst 17 (λ n. Contains ms n ⊎ (Some m ≡ Some n)) (take 17 more)
  first = first_taken 17 18 (λ n. Contains ms n ⊎ (Some m ≡ Some n)) more (omega arith) (record {
    rising = up;
    wanted = λ k d lt. let is = Contains-insert_cases ms i m (get_or more k d) (Contains-get_or more k d lt) in grind arith;
    others = λ n h. inl (Contains-insert ms i m n (grind arith));
  })

  passed : (n : BitMask) → IsPast 17 ms n → (k : ℕ) (d : BitMask) → k < 17 → ComesBefore (get_or more k d) n
  passed n h k d lt =
      let full = h.0 in
      let old : (x : BitMask) → Contains ms x → ComesBefore x n = λ x c. All-contains (λ x. ComesBefore x n) ms x h.1 c in
      let next : ComesBefore (get_or more k d) (get_or more 17 d) = up k 17 d lt (omega (arith, long)) in
      elim (Contains-insert_cases ms i m (get_or more k d) (Contains-get_or more k d (omega (arith, long)))) [
        | inl c ↦ old (get_or more k d) c
        | inr e ↦ elim (Contains-insert_cases ms i m (get_or more 17 d) (Contains-get_or more 17 d (omega (arith, long)))) [
          | inl c ↦ before_then (get_or more k d) (get_or more 17 d) n next (old (get_or more 17 d) c)
          | inr f ↦ absurd (before_itself m (rw (← e, ← f) at next))
        ]
      ]

pub none_kept : (P : BitMask → Type 0) (ms : List BitMask) → AreKept ms → ((m : BitMask) → P m → Contains ms m ⊎ IsPast 17 ms m) → Keeps P ms ms
none_kept P ms kept out = record {
  first = record {
    rising = kept.0;
    wanted = λ k d lt. inl (Contains-get_or ms k d lt);
    others = λ m h. elim h [ inl old ↦ inl old | inr more ↦ out m more ];
  };
  past = λ m h. h;
}

-- what comes after the last one comes after all
pub past_last : (ms : List BitMask) (x m : BitMask) → AllPairs ComesBefore ms → length ms ≡ 17 → x ≡ get_or ms 16 x → ComesBefore x m → IsPast 17 ms m
past_last ms x m up full is before = (
  full,
  λ k d lt.
      let last = rw (is, get_or_default ms 16 x d (omega arith)) at before in
      elim (cases_lt k 16) [
        | inl below ↦ before_then (get_or ms k d) (get_or ms 16 d) m (up k 16 d below (omega arith)) last
        | inr from ↦ let at : k ≡ 16 = omega arith in rw at last
      ],
)

-- a choice, said otherwise
pub or_both : (A P Q R : Type 0) → P ⊎ Q ↔ R → (A ⊎ P) ⊎ Q ↔ A ⊎ R
or_both A P Q R like = (λ w. grind arith, λ w. grind arith)

-- the first masks of more
pub first_kept : (P Q : BitMask → Type 0) (xs ys : List BitMask) → AreFirst 17 P xs → Keeps Q xs ys → AreFirst 17 (λ m. P m ⊎ Q m) ys
first_kept P Q xs ys f g = record {
  rising = g.first.rising;
  wanted = All-weaker (λ m. Contains xs m ⊎ Q m) (λ m. P m ⊎ Q m) (λ m h. elim h [ inl old ↦ inl (All-contains P xs m f.wanted old) | inr more ↦ inr more ]) ys g.first.wanted;
  others = λ m h. grind (arith, f.others m, g.first.others m, g.past m);
}

pub first_like : (n : ℕ) (P Q : BitMask → Type 0) (xs : List BitMask) → ((m : BitMask) → P m ↔ Q m) → AreFirst n P xs → AreFirst n Q xs
first_like n P Q xs like f = record {
  rising = f.rising;
  wanted = All-weaker P Q (λ m. (like m).0) xs f.wanted;
  others = λ m q. f.others m ((like m).1 q);
}

-- one after another, said as one
pub kept_both : (P Q R : BitMask → Type 0) (xs ys zs : List BitMask) → ((m : BitMask) → P m ⊎ Q m ↔ R m) → Keeps P xs ys → Keeps Q ys zs → Keeps R xs zs
kept_both P Q R xs ys zs like g h = record {
  first = first_like 17 (λ m. (Contains xs m ⊎ P m) ⊎ Q m) (λ m. Contains xs m ⊎ R m) zs (λ m. or_both (Contains xs m) (P m) (Q m) (R m) (like m)) (first_kept (λ m. Contains xs m ⊎ P m) Q ys zs g.first h);
  past = λ m a. h.past m (g.past m a);
}

-- no mask that is left out was wanted, or they come after all that are kept
pub rest_kept : (P : BitMask → Type 0) (len : ℕ) (old ms : List BitMask) → AreKept ms → Keeps (λ m. P m × (m.len < len)) old ms → ((m : BitMask) → P m → len ≤ m.len → IsPast 17 ms m) → Keeps P old ms
rest_kept P len old ms kept keeps out =
    kept_both (λ m. P m × (m.len < len)) (λ m. P m × (len ≤ m.len)) P old ms ms
    (λ m. (λ w. elim w [ inl a ↦ a.0 | inr a ↦ a.0 ], λ p. elim (cases_lt m.len len) [ inl lt ↦ inl (p, lt) | inr le ↦ inr (p, le) ]))
    keeps
    (none_kept (λ m. P m × (len ≤ m.len)) ms kept (λ m w. inr (out m w.0 w.1)))

-- what is given of those that are kept
pub given_is : (ms : List BitMask) → take (min (length ms) 16) ms ≡ take 16 ms
given_is ms = ap (λ (n : ℕ). take n ms) (let e : min (length ms) 16 ≡ min 16 (length ms) = omega arith in e) ∙ take_min 16 ms

pub given_more : (P : BitMask → Type 0) (ms masks : List BitMask) (more : Bool) → length ms ≤ 17 → more ≡ (length ms == 17) → masks ≡ take 16 ms → AreFirst 17 P ms → more ≡ true ↔ (m : BitMask) × P m × (¬ (Contains masks m))
given_more P ms masks more short told is f =
    let none : BitMask = record { len = 0; value = 0 } in
    let last : BitMask = get_or ms 16 none in
    let front = length-take 16 ms in
    rw is (
      λ e. let full : length ms ≡ 17 = eqb-true _ 17 (sym told ∙ e) in (
        last,
        f.wanted 16 none (omega arith),
        λ k.
            let lt : k.0 < 16 = omega (arith, k.1) in
            let same : get_or ms k.0 none ≡ last = get_or_default ms k.0 none last (omega arith) ∙ sym (get_or-take 16 ms k.0 last lt) ∙ k.2 in
            before_itself last (subst (λ x. ComesBefore x last) same (f.rising k.0 16 none lt (omega arith))),
      ),
      λ w. elim (f.others w.0 w.1) [
        | inl h ↦ elim (cases_lt (length ms) 17) [
          | inl lt ↦ absurd (w.2 (rw (take_all 16 ms (omega arith)) h))
          | inr le ↦ told ∙ eq-eqb _ 17 (omega arith)
        ]
        | inr past ↦ told ∙ eq-eqb _ 17 past.0
      ],
    )

-- the widest mask is open, and the first of the open ones
one_mask : (m n : BitMask) → IsAtMost m n → ComesBefore n m ⊎ (n ≡ m) → n ≡ m
one_mask m n h k = grind arith

pub widest_is_first : (set : ℕ → Bool) (m : BitMask) (most : ℕ) (masks : List BitMask) → 0 < most → IsWidest set m → AreFirst most (IsOpenMask set) masks → (others : List BitMask) × (masks ≡ m ∷ others)
widest_is_first set m most masks some w f = go masks f (f.others m opened) where
  opened : IsOpenMask set m
  opened = record {
    is_mask = w.is_mask;
    short = w.short;
    open_throughout = w.open_throughout;
    maximal = elim (cases_eq m.len 0) [
      | inl z ↦ inl z
      | inr some ↦ inr (λ all.
          let pos = pow_pos (m.len - 1) in
          let le = w.least (parent m) (omega (arith, w.short), omega arith) (omega (arith, w.short)) all in
          omega (arith, le.0))
    ];
  }

  go : (ms : List BitMask) → AreFirst most (IsOpenMask set) ms → Contains ms m ⊎ IsPast most ms m → (others : List BitMask) × (ms ≡ m ∷ others)
  go [] f (inl h) = absurd (let lt = h.1 in omega arith)
  go [] f (inr h) = absurd (let e = h.0 in omega arith)
  go (n ∷ ns) f h =
      let first = f.wanted 0 m (omega arith) in
      let le : IsAtMost m n = w.least n first.is_mask first.short first.open_throughout in
      let at : ComesBefore n m ⊎ (n ≡ m) = elim h [
        | inl c ↦ elim (cases_eq c.0 0) [
          | inl z ↦ inr (sym (ap (λ k. get_or (n ∷ ns) k m) z) ∙ c.2)
          | inr nz ↦ inl (subst (ComesBefore n) c.2 (f.rising 0 c.0 m (omega arith) c.1))
        ]
        | inr past ↦ inl (past.1 0 m (omega arith))
      ] in
      (ns, ap (λ x. x ∷ ns) (one_mask m n le at))
