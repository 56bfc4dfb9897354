-- Stretches of keys, and the masks in them that have none of some keys.
use Rattle.vic_tree.proofs.Words.{◌≡◌, ℕ, ◌+◌, ◌<◌, ◌≤◌, ◌⊎◌, inl, inr, Bool, true, false, List, [], ◌∷◌, sym, ◌∙◌, arith, cases_lt, has, BitMask, IsMask, mirror, SameUids, is_left, nat_tests, AllKeysPass, AreFirst, AllOpen, IsAtMost, ComesBefore, IsPast, IsFreeFrom, IsOpenBelow, IsOpenBlock, All-weaker}
use Rattle.vic_tree.proofs.BesidesLaws.{first_passes, keys_open}

-- a mask that has none of some keys, and begins in a range that ends with one, lies in the range
pub stays_in : (keys : List ℕ) (r : ℕ × ℕ) (m : BitMask) → has keys r.1 ≡ true → IsFreeFrom keys r.0 m → mirror m.value ≤ r.1 → AllKeysPass (is_left (r ∷ []) keys) m
stays_in keys r m ends f le k lo hi =
    let begins = f.begins in
    let free = f.free k lo hi in
    elim (cases_lt r.1 k) [
      | inl beyond ↦ absurd (let no = f.free r.1 le (omega arith) in grind (arith, nat_tests, no, ends))
      | inr within ↦ grind (arith, nat_tests, free)
    ]

-- no mask has all its UIDs in a set that has none
pub no_mask : (p : ℕ → Bool) (m : BitMask) → IsMask m → m.len ≤ 56 → AllKeysPass p m → SameUids (λ u. p (mirror u)) (λ u. false) → ⊥
no_mask p m is short pass none =
    let all = (keys_open p m is short).0 pass in
    let open_in_none : AllOpen (λ u. false) m = λ u i h. sym (none u i) ∙ all u i h in
    let e = first_passes (λ k. false) m ((keys_open (λ k. false) m is short).1 open_in_none) in
    cc e

-- what comes no earlier than a mask that comes behind another comes behind that
pub behind : (last widest m : BitMask) → ComesBefore last widest → IsAtMost widest m → ComesBefore last m
behind last widest m h k = grind arith

-- a mask of the keys that are left has none of those that were removed
pub open_is_free : (rs : List (ℕ × ℕ)) (keys : List ℕ) (from : ℕ) (m : BitMask) → IsOpenBlock (is_left rs keys) m → from ≤ mirror m.value → IsFreeFrom keys from m
open_is_free rs keys from m o le = record {
  is_mask = o.is_mask;
  short = o.short;
  begins = le;
  free = λ k lo hi. let t = o.passes k lo hi in grind (arith, nat_tests, t);
}

-- masks that come behind all that are kept are passed
pub masks_passed : (rs : List (ℕ × ℕ)) (keys : List ℕ) (from to : ℕ) (ms : List BitMask) → from ≤ to
    → ((m : BitMask) → IsFreeFrom keys from m → mirror m.value < to → IsPast 17 ms m)
    → AreFirst 17 (IsOpenBelow (is_left rs keys) from) ms → AreFirst 17 (IsOpenBelow (is_left rs keys) to) ms
masks_passed rs keys from to ms le past f = record {
  rising = f.rising;
  wanted = All-weaker (IsOpenBelow (is_left rs keys) from) (IsOpenBelow (is_left rs keys) to) (λ m w. (w.0, omega (arith, w.1))) ms f.wanted;
  others = λ m w. elim (cases_lt (mirror m.value) from) [
    | inl below ↦ f.others m (w.0, below)
    | inr at ↦ inr (past m (open_is_free rs keys from m w.0 at) w.1)
  ];
}

-- the key before the one from which on masks may begin isn't left
pub cut_before : (rs : List (ℕ × ℕ)) (keys : List ℕ) (from to : ℕ) → ((k : ℕ) → k + 1 ≡ from → is_left rs keys k ≡ false) → ((k : ℕ) → k + 1 ≡ to → (to ≡ from) ⊎ (has keys k ≡ true)) → (k : ℕ) → k + 1 ≡ to → is_left rs keys k ≡ false
cut_before rs keys from to cut ends k e = elim (ends k e) [
  | inl same ↦ cut k (omega arith)
  | inr removed ↦ grind (arith, nat_tests, removed)
]
