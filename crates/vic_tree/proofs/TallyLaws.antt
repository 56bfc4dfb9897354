-- Counting masks one by one, each once; and which masks are the first of all.
use Rattle.vic_tree.proofs.Words.{◌≡◌, ◌∙◌, ℕ, zero, suc, ◌+◌, ◌<◌, ◌≤◌, ◌⊎◌, ◌↔◌, inl, inr, List, [], ◌∷◌, length, map, take, get_or, None, Option, Some, IfSome, rules, refl, sym, ap, subst, arith, All, AllPairs, Contains, AllPairs-cons, All-nil, All-cons, All-contains, Contains-get_or, Contains-append_cases, Contains-append_right, Contains-push_cases, take_all, take-take, length-take, cases_lt, cases_eq, BitMask, AreAll, IsMaximalAt, IsMaximalIn, ComesBefore, IsTallyOf, HasMore, Tallies, Tally, size_of, sum, sum_by-cons}
use Rattle.vic_tree.proofs.FirstMasks.{before_itself, before_then, same_mask}
use Rattle.vic_tree.proofs.OpenBlocks.{maximal_of_len}

-- ---- lists of masks in order

-- what a list has, and the others
cons_has : (x n : BitMask) (xs : List BitMask) → (x ≡ n) ⊎ Contains xs n ↔ Contains (x ∷ xs) n
cons_has x n xs = (
  λ w. elim w [ inl e ↦ (zero, omega arith, e) | inr h ↦ Contains-append_right (x ∷ []) xs n h ],
  λ h. elim (Contains-append_cases (x ∷ []) xs n h) [
    | inl one ↦ elim (Contains-push_cases [] x n one) [ inl none ↦ absurd (let lt = none.1 in omega arith) | inr e ↦ inl e ]
    | inr rest ↦ inr rest
  ],
)

none_has : (n : BitMask) → Contains [] n → ⊥
none_has n h = let lt = h.1 in omega arith

head_before : (x : BitMask) (xs : List BitMask) → AllPairs ComesBefore (x ∷ xs) → All (ComesBefore x) xs
head_before x xs up = λ k d lt. up 0 (suc k) d (omega arith) (omega arith)

tail_rising : (x : BitMask) (xs : List BitMask) → AllPairs ComesBefore (x ∷ xs) → AllPairs ComesBefore xs
tail_rising x xs up = λ k j d lt within. up (suc k) (suc j) d (omega arith) (omega arith)

-- one of two masks comes before the other, or they are the same
in_order : (m x : BitMask) → ComesBefore m x ⊎ (m ≡ x) ⊎ ComesBefore x m
in_order m x = elim (cases_lt m.len x.len) [
  | inl lt ↦ inl (omega arith, λ e. absurd (omega arith))
  | inr le ↦ elim (cases_eq m.len x.len) [
    | inr ne ↦ inr (inr (le, λ e. absurd (omega arith)))
    | inl e ↦ elim (cases_lt m.value x.value) [
      | inl lt ↦ inl (omega arith, λ f. lt)
      | inr from ↦ elim (cases_eq m.value x.value) [
        | inl f ↦ inr (inl (same_mask m x e f))
        | inr nf ↦ inr (inr (le, λ f. omega arith))
      ]
    ]
  ]
]

-- one mask more, in its place
record OneMore (ms : List BitMask) (m : BitMask) : Type 0 where
  new : List BitMask
  more : HasMore (λ n. m ≡ n) ms new
  longer : length new ≡ length ms + 1
  larger : sum (map size_of new) ≡ sum (map size_of ms) + size_of m

more_uids : (x : BitMask) (xs : List BitMask) → sum (map size_of (x ∷ xs)) ≡ size_of x + sum (map size_of xs)
more_uids x xs = sum_by-cons (λ n. n) (size_of x) (map size_of xs)

one_more : (ms : List BitMask) (m : BitMask) → AllPairs ComesBefore ms → (Contains ms m → ⊥) → OneMore ms m
one_more [] m up out = record {
  new = m ∷ [];
  more = record {
    rising = AllPairs-cons ComesBefore m [] (All-nil (ComesBefore m)) up;
    members = λ n. (λ w. (cons_has m n []).0 (elim w [ inl old ↦ inr old | inr e ↦ inl e ]), λ h. elim ((cons_has m n []).1 h) [ inl e ↦ inr e | inr old ↦ inl old ]);
  };
  longer = refl;
  larger = omega arith;
}
one_more (x ∷ xs) m up out = elim (in_order m x) [
  | inl before ↦ record {
    new = m ∷ x ∷ xs;
    more = record {
      rising = AllPairs-cons ComesBefore m (x ∷ xs) (All-cons (ComesBefore m) x xs before (λ k d lt. before_then m x (get_or xs k d) before (head_before x xs up k d lt))) up;
      members = λ n. (λ w. (cons_has m n (x ∷ xs)).0 (elim w [ inl old ↦ inr old | inr e ↦ inl e ]), λ h. elim ((cons_has m n (x ∷ xs)).1 h) [ inl e ↦ inr e | inr old ↦ inl old ]);
    };
    longer = omega arith;
    larger = omega (arith, more_uids m (x ∷ xs));
  }
  | inr (inl e) ↦ absurd (out ((cons_has x m xs).0 (inl (sym e))))
  | inr (inr behind) ↦
      let rest = one_more xs m (tail_rising x xs up) (λ h. out ((cons_has x m xs).0 (inr h))) in
      record {
        new = x ∷ rest.new;
        more = record {
          rising = AllPairs-cons ComesBefore x rest.new
              (λ k d lt. elim ((rest.more.members (get_or rest.new k d)).1 (Contains-get_or rest.new k d lt)) [
                | inl old ↦ All-contains (ComesBefore x) xs (get_or rest.new k d) (head_before x xs up) old
                | inr e ↦ subst (ComesBefore x) e behind
              ])
              rest.more.rising;
          members = λ n. (
            λ w. (cons_has x n rest.new).0 (elim w [
              | inl old ↦ elim ((cons_has x n xs).1 old) [ inl e ↦ inl e | inr h ↦ inr ((rest.more.members n).0 (inl h)) ]
              | inr e ↦ inr ((rest.more.members n).0 (inr e))
            ]),
            λ h. elim ((cons_has x n rest.new).1 h) [
              | inl e ↦ inl ((cons_has x n xs).0 (inl e))
              | inr r ↦ elim ((rest.more.members n).1 r) [ inl old ↦ inl ((cons_has x n xs).0 (inr old)) | inr e ↦ inr e ]
            ],
          );
        };
        longer = omega (arith, rest.longer);
        larger = omega (arith, rest.larger, more_uids x rest.new, more_uids x xs);
      }
]

-- ---- tallies

pub none_tallied : (P : BitMask → Type 0) (t : Tally) → ((m : BitMask) → P m → ⊥) → Tallies P t t
none_tallied P t none = λ ms up is out. (ms, record { rising = up; members = λ m. (λ w. elim w [ inl old ↦ old | inr p ↦ absurd (none m p) ], λ h. inl h) }, is)

pub one_tallied : (m : BitMask) (s t : Tally) → t.count ≡ s.count + 1 → t.uids ≡ s.uids + size_of m → Tallies (λ n. Some m ≡ Some n) s t
one_tallied m s t count uids = λ ms up is out.
    let one = one_more ms m up (out m refl) in (
      one.new,
      record {
        rising = one.more.rising;
        members = λ n. (
          λ w. (one.more.members n).0 (elim w [ inl old ↦ inl old | inr e ↦ inr (grind arith) ]),
          λ h. elim ((one.more.members n).1 h) [ inl old ↦ inl old | inr e ↦ inr (ap Some e) ],
        );
      },
      record { count = omega (arith, count, is.count, one.longer); uids = omega (arith, uids, is.uids, one.larger) },
    )

-- one after another, said as one
pub both_tallied : (P Q R : BitMask → Type 0) (s t u : Tally) → ((m : BitMask) → P m ⊎ Q m ↔ R m) → ((m : BitMask) → P m → Q m → ⊥) → Tallies P s t → Tallies Q t u → Tallies R s u
both_tallied P Q R s t u like other first second = λ ms up is out.
    let a = first ms up is (λ m p h. out m ((like m).0 (inl p)) h) in
    let b = second a.0 a.1.rising a.2 (λ m q h. elim ((a.1.members m).1 h) [ inl old ↦ out m ((like m).0 (inr q)) old | inr p ↦ other m p q ]) in (
      b.0,
      record {
        rising = b.1.rising;
        members = λ m. (
          λ w. (b.1.members m).0 (elim w [
            | inl old ↦ inl ((a.1.members m).0 (inl old))
            | inr r ↦ elim ((like m).1 r) [ inl p ↦ inl ((a.1.members m).0 (inr p)) | inr q ↦ inr q ]
          ]),
          λ h. elim ((b.1.members m).1 h) [
            | inl c ↦ elim ((a.1.members m).1 c) [ inl old ↦ inl old | inr p ↦ inr ((like m).0 (inl p)) ]
            | inr q ↦ inr ((like m).0 (inr q))
          ],
        );
      },
      b.2,
    )

pub like_tallied : (P Q : BitMask → Type 0) (s t : Tally) → ((m : BitMask) → P m ↔ Q m) → Tallies P s t → Tallies Q s t
like_tallied P Q s t like tallies = λ ms up is out.
    let w = tallies ms up is (λ m p. out m ((like m).0 p)) in (
      w.0,
      record {
        rising = w.1.rising;
        members = λ m. (
          λ h. (w.1.members m).0 (elim h [ inl old ↦ inl old | inr q ↦ inr ((like m).1 q) ]),
          λ h. elim ((w.1.members m).1 h) [ inl old ↦ inl old | inr p ↦ inr ((like m).0 p) ],
        );
      },
      w.2,
    )

-- a mask that was found, or none
pub nothing_tallied : (t : Tally) → Tallies (λ m. None ≡ Some m) t t
nothing_tallied t = none_tallied (λ m. None ≡ Some m) t (λ m e. search rules)

pub found_tallied : (m : BitMask) (s : Tally) (o : Option Tally) (size : ℕ) → size ≡ size_of m → IfSome o (λ t. t.count ≡ s.count + 1) → IfSome o (λ t. t.uids ≡ s.uids + size) → IfSome o (Tallies (λ n. Some m ≡ Some n) s)
found_tallied m s None size e count uids = tt
found_tallied m s (Some t) size e count uids = one_tallied m s t count (omega (arith, e, uids))

-- the open masks of a run that have one length
found_at : (first last len side : ℕ) (o : Option BitMask) (m : BitMask) → IfSome o (IsMaximalAt first last len side) → o ≡ Some m → IsMaximalAt first last len side m
found_at first last len side o m some e = subst (λ (x : Option BitMask). IfSome x (IsMaximalAt first last len side)) e some

pub len_tallied : (first last len : ℕ) (a b : Option BitMask) (s t u v : Tally) → IfSome a (IsMaximalAt first last len 1) → ((m : BitMask) → IsMaximalAt first last len 1 m → a ≡ Some m) → IfSome b (IsMaximalAt first last len 0) → ((m : BitMask) → IsMaximalAt first last len 0 m → b ≡ Some m)
    → Tallies (λ m. IsMaximalIn first last m × (m.len < len)) s t → Tallies (λ m. a ≡ Some m) t u → Tallies (λ m. b ≡ Some m) u v → Tallies (λ m. IsMaximalIn first last m × (m.len < len + 1)) s v
len_tallied first last len a b s t u v odd only_odd even only_even old one two =
    both_tallied (λ m. (IsMaximalIn first last m × (m.len < len)) ⊎ (a ≡ Some m)) (λ m. b ≡ Some m) (λ m. IsMaximalIn first last m × (m.len < len + 1)) s u v
    (maximal_of_len first last len a b odd only_odd even only_even)
    (λ m w e.
    let g = found_at first last len 0 b m even e in
    elim w [
      | inl o ↦ omega (arith, g.len_is, o.1)
      | inr f ↦ let h = found_at first last len 1 a m odd f in omega (arith, g.side, h.side)
    ])
    (both_tallied (λ m. IsMaximalIn first last m × (m.len < len)) (λ m. a ≡ Some m) (λ m. (IsMaximalIn first last m × (m.len < len)) ⊎ (a ≡ Some m)) s t u
    (λ m. (λ w. w, λ w. w))
    (λ m o e. let g = found_at first last len 1 a m odd e in omega (arith, g.len_is, o.1))
    old one)
    two

-- all masks of a kind, and others
pub more_counted : (P Q R : BitMask → Type 0) (s t : Tally) → ((m : BitMask) → P m ⊎ Q m ↔ R m) → ((m : BitMask) → P m → Q m → ⊥) → ((all : List BitMask) × AreAll P all × IsTallyOf all s) → Tallies Q s t → (all : List BitMask) × AreAll R all × IsTallyOf all t
more_counted P Q R s t like other told tallies =
    let w = tallies told.0 told.1.rising told.2 (λ m q h. other m (All-contains P told.0 m told.1.wanted h) q) in (
      w.0,
      record {
        rising = w.1.rising;
        wanted = λ k d lt. (like (get_or w.0 k d)).0 (elim ((w.1.members (get_or w.0 k d)).1 (Contains-get_or w.0 k d lt)) [
          | inl old ↦ inl (All-contains P told.0 (get_or w.0 k d) told.1.wanted old)
          | inr q ↦ inr q
        ]);
        others = λ m r. (w.1.members m).0 (elim ((like m).1 r) [ inl p ↦ inl (told.1.others m p) | inr q ↦ inr q ]);
      },
      w.2,
    )

-- ---- the first of all masks

-- all masks but the first
others_all : (P : BitMask → Type 0) (x : BitMask) (xs : List BitMask) → AreAll P (x ∷ xs) → AreAll (λ m. P m × (x ≡ m → ⊥)) xs
others_all P x xs a = record {
  rising = tail_rising x xs a.rising;
  wanted = λ k d lt. (a.wanted (suc k) d (omega arith), λ e. before_itself x (subst (ComesBefore x) (sym e) (head_before x xs a.rising k d lt)));
  others = λ m w. elim ((cons_has x m xs).1 (a.others m w.0)) [ inl e ↦ absurd (w.1 e) | inr h ↦ h ];
}

pub all_like : (P Q : BitMask → Type 0) (xs : List BitMask) → ((m : BitMask) → P m ↔ Q m) → AreAll P xs → AreAll Q xs
all_like P Q xs like a = record {
  rising = a.rising;
  wanted = λ k d lt. (like (get_or xs k d)).0 (a.wanted k d lt);
  others = λ m q. a.others m ((like m).1 q);
}

-- the masks up to some place are the first of all
up_to_place : (P D : BitMask → Type 0) (xs gs : List BitMask) → ((m n : BitMask) → ComesBefore m n → D n → D m) → AreAll P xs → AreAll (λ m. P m × D m) gs → gs ≡ take (length gs) xs
up_to_place P D [] [] down a g = refl
up_to_place P D (x ∷ xs) [] down a g = refl
up_to_place P D [] (y ∷ ys) down a g = absurd (none_has y (a.others y (g.wanted 0 y (omega arith)).0))
up_to_place P D (x ∷ xs) (y ∷ ys) down a g =
    let own = g.wanted 0 y (omega arith) in
    let same : x ≡ y = elim ((cons_has x y xs).1 (a.others y own.0)) [
      | inl e ↦ e
      | inr h ↦
          let before = All-contains (ComesBefore x) xs y (head_before x xs a.rising) h in
          elim ((cons_has y x ys).1 (g.others x (a.wanted 0 x (omega arith), down x y before own.1))) [
            | inl e ↦ sym e
            | inr k ↦ absurd (before_itself x (before_then x y x before (All-contains (ComesBefore y) ys x (head_before y ys g.rising) k)))
          ]
    ] in
    let rest = up_to_place (λ m. P m × (x ≡ m → ⊥)) D xs ys down (others_all P x xs a)
    (all_like (λ m. (P m × D m) × (y ≡ m → ⊥)) (λ m. (P m × (x ≡ m → ⊥)) × D m) ys
    (λ m. (λ w. ((w.0.0, λ e. w.1 (sym same ∙ e)), w.0.1), λ w. ((w.0.0, w.1), λ e. w.0.1 (same ∙ e))))
    (others_all (λ m. P m × D m) y ys g)) in
    ap (λ z. z ∷ ys) (sym same) ∙ ap (λ zs. x ∷ zs) rest

-- so the first few of these are the first few of all
pub first_few : (P : BitMask → Type 0) (most len : ℕ) (xs gs : List BitMask) → AreAll P xs → AreAll (λ m. P m × (m.len ≤ len)) gs → most ≤ length gs → take most gs ≡ take most xs
first_few P most len xs gs a g le = ap (λ zs. take most zs) (up_to_place P (λ m. m.len ≤ len) xs gs (λ m n before short. omega (arith, before.0)) a g) ∙ take-take most (length gs) xs le

-- there is one list of all
pub one_list : (P : BitMask → Type 0) (xs ys : List BitMask) → AreAll P xs → AreAll P ys → xs ≡ ys
one_list P xs ys a b =
    let both : (zs : List BitMask) → AreAll P zs → AreAll (λ m. P m × (m.len ≡ m.len)) zs = λ zs c. all_like P (λ m. P m × (m.len ≡ m.len)) zs (λ m. (λ p. (p, refl), λ w. w.0)) c in
    let one : xs ≡ take (length xs) ys = up_to_place P (λ m. m.len ≡ m.len) ys xs (λ m n before e. refl) b (both xs a) in
    let other : ys ≡ take (length ys) xs = up_to_place P (λ m. m.len ≡ m.len) xs ys (λ m n before e. refl) a (both ys b) in
    let here = ap length one ∙ length-take (length xs) ys in
    let there = ap length other ∙ length-take (length ys) xs in
    one ∙ take_all (length xs) ys (omega (arith, here, there))
