-- The open masks of a set without those that lie in a part of it: these are open masks of the part.
use Rattle.vic_survey.proofs.ValueWords.{Bool, List, [], arith, false, not, refl, sym, true, zero, suc, ℕ, ◌&&◌, ◌||◌, ◌*◌, ◌<◌, ◌+◌, ◌-◌, ◌≤◌, ◌∙◌, ◌≡◌, ◌^◌, BitMask, IsUid, has, nat_tests}
use Rattle.std.proofs.Common.{below_more, inl, inr, ◌⊎◌}
use Rattle.std.proofs.lemmas.Bool.{cases_Bool, not-false, or_parts}
use Rattle.std.specs.List.{Contains}
use Rattle.vic_frame.specs.Masks.{lies_in}
use Rattle.vic_frame.specs.LowBitsFirst.{mirror}
use Rattle.vic_tree.specs.Keys.{AreKeysOf}
use Rattle.vic_tree.specs.OpenMasks.{AreAll, IsOpenMask}
use Rattle.vic_tree.specs.OpenSet.{AllOpen, SameUids, has_key, without_keys}
use Rattle.vic_tree.specs.Ranges.{in_ranges, is_open_in, is_outside}

-- ---- sets with the same UIDs have the same open masks

open_same : (s t : ℕ → Bool) (m : BitMask) → SameUids s t → IsOpenMask s m → IsOpenMask t m
open_same s t m e h = record {
  is_mask = h.is_mask;
  short = h.short;
  open_throughout = λ u i l. sym (e u i) ∙ h.open_throughout u i l;
  maximal = elim h.maximal [
    | inl z ↦ inl z
    | inr out ↦ inr (λ all. out (λ u i l. e u i ∙ all u i l))
  ];
}

all_same : (s t : ℕ → Bool) (ms : List BitMask) → SameUids s t → AreAll (IsOpenMask s) ms → AreAll (IsOpenMask t) ms
all_same s t ms e a = record {
  rising = a.rising;
  wanted = λ k d lt. open_same s t _ e (a.wanted k d lt);
  others = λ m h. a.others m (open_same t s m (λ u i. sym (e u i)) h);
}

-- what is outside of all but some UIDs is these
back : (b c d k : Bool) → b ≡ not c → c ≡ (true && not d) → d ≡ k → (b && true) ≡ k
back b c true k h i j = rw (h, i) j
back b c false k h i j = rw (h, i) j

pub among : (us keys : List ℕ) (every others set : List (ℕ × ℕ)) (ms : List BitMask) → AreKeysOf keys us → ((u : ℕ) → IsUid u → is_open_in every u ≡ true) → SameUids (is_open_in others) (without_keys (is_open_in every) keys)
    → SameUids (is_open_in set) (is_outside others) → AreAll (IsOpenMask (without_keys (is_open_in set) [])) ms → AreAll (IsOpenMask (has us)) ms
among us keys every others set ms k all besides outside a =
    all_same (without_keys (is_open_in set) []) (has us) ms
    (λ u i. back (is_open_in set u) (is_open_in others u) (has_key keys u) (has us u) (outside u i) (rw (all u i) at (besides u i)) (k.members u i)) a

-- ---- a mask of a set lies in a part of it, or has another UID

all_or_one : (q : ℕ → Bool) (n : ℕ) → ((k : ℕ) → k < n → q k ≡ true) ⊎ ((k : ℕ) × (k < n) × (q k ≡ false))
all_or_one q zero = inl (λ k lt. absurd (omega (arith, lt)))
all_or_one q (suc n) = elim (all_or_one q n) [
  | inr f ↦ inr (f.0, omega (arith, f.1), f.2)
  | inl all ↦ elim (cases_Bool (q n)) [
    | inl e ↦ inl (λ k lt. below_more (λ k. q k ≡ true) n all e k (omega (arith, lt)))
    | inr e ↦ inr (n, omega arith, e)
  ]
]

-- a UID of a mask that isn't in a set
abbrev pub Other : (ℕ → Bool) → BitMask → Type 0
Other set m = (u : ℕ) × IsUid u × (lies_in m u ≡ true) × (set u ≡ false)

open_or_other : (set : ℕ → Bool) (m : BitMask) (n : ℕ) → n ≡ 2 ^ 56 → AllOpen set m ⊎ Other set m
open_or_other set m n size = elim (all_or_one (λ k. not (lies_in m (0xE0 * 2 ^ 56 + k)) || set (0xE0 * 2 ^ 56 + k)) n) [
  | inl all ↦ inl (λ u is_uid i.
      let same : 0xE0 * 2 ^ 56 + (u - 0xE0 * 2 ^ 56) ≡ u = omega (arith, is_uid.0) in
      let t = rw same at (all (u - 0xE0 * 2 ^ 56) (omega (arith, is_uid.0, is_uid.1))) in
      grind (arith, nat_tests))
  | inr f ↦
      let w = or_parts (not (lies_in m (0xE0 * 2 ^ 56 + f.0))) (set (0xE0 * 2 ^ 56 + f.0)) f.2 in
      inr (0xE0 * 2 ^ 56 + f.0, (omega arith, omega (arith, f.1)), not-false _ w.0, w.1)
]

-- an open mask of a set that isn't one of a part of it has a UID outside of the part
pub has_other : (set part : ℕ → Bool) (m : BitMask) → ((u : ℕ) → IsUid u → part u ≡ true → set u ≡ true) → IsOpenMask set m → (IsOpenMask part m → ⊥) → Other part m
has_other set part m within h none = elim (open_or_other part m (2 ^ 56) refl) [
  | inr w ↦ w
  | inl all ↦ absurd (none (record {
    is_mask = h.is_mask;
    short = h.short;
    open_throughout = all;
    maximal = elim h.maximal [
      | inl z ↦ inl z
      | inr out ↦ inr (λ more. out (λ u i l. within u i (more u i l)))
    ];
  }))
]
