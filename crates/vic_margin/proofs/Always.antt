-- Each log has a margin, and a weakest mask.
use Rattle.vic_margin.proofs.Words.{◌≡◌, ◌∙◌, ◌<◌, ◌≤◌, ◌+◌, ◌*◌, ◌/◌, ◌%◌, ◌^◌, ℕ, suc, true, false, List, [], ◌∷◌, length, map, nat_eq, inl, inr, refl, sym, ap, subst, arith, cases_Bool, cases_lt, both_ways, or_cases, or_left, or_right, eqb-true, eq-eqb, length-map, has, IsUid, mirror, uid_of, mirror_of_uid, is_uid, Entry, Listed, margin_of}
use Rattle.std.proofs.Common.{⊎_elim}
use Rattle.std.proofs.Math.Nat.{pow-le-pow_right}
use Rattle.std.proofs.lemmas.Map.Steps.{le-length_from_below}
use Rattle.vic_frame.specs.Masks.{BitMask, lies_in}
use Rattle.vic_frame.specs.declared.uid.TheConstants.{UID_BITS}
use Rattle.vic_log.proofs.Push.{rising_long}
use Rattle.vic_log.specs.Log.{IsLog}
use Rattle.vic_log.specs.Order.{entries, listed}
use Rattle.vic_log.specs.declared.entry.LogLine.{LogLine}
use Rattle.vic_log.specs.declared.entry.Version.{Version}
use Rattle.vic_tree.specs.OpenSet.{IsAtMost}
use Rattle.vic_verdict.proofs.Masks.{mask_of, mask_of-alone, mask_of-value}
use Rattle.vic_verdict.proofs.Populations.{uid_below, uid_end}
use Rattle.vic_verdict.proofs.Search.{Either, and_either, false_either, least_of, not_either, some_either}
use Rattle.vic_verdict.specs.Verdict.{IsFirstMask}
use Rattle.vic_margin.specs.Margins.{IsMarginOfSome, IsOfMargin, IsWeakest, IsWeakestBesides}
use Rattle.vic_margin.specs.declared.answer.Weakest.{Weakest}
use Rattle.vic_margin.proofs.Places.{entries_long}

-- ---- a UID that isn't in a short list

has_map : (f : ℕ → ℕ) (xs : List ℕ) (u : ℕ) → has xs u ≡ true → has (map f xs) (f u) ≡ true
has_map f [] u h = absurd (both_ways _ refl h)
has_map f (x ∷ xs) u h = elim (or_cases (nat_eq u x) (has xs u) h) [
  | inl here ↦ or_left _ _ (eq-eqb (f u) (f x) (ap f (eqb-true u x here)))
  | inr there ↦ or_right _ _ (has_map f xs u there)
]

-- a short list lacks the UID with some key
some_lacks : (us : List ℕ) → length us < 2 ^ 56 → (k : ℕ) × (has us (uid_of k) ≡ false)
some_lacks us short = elim (some_either (λ k. (has us (uid_of k) ≡ false) × (k < 2 ^ 56)) (λ k. and_either (false_either (has us (uid_of k))) (below_either k (2 ^ 56))) (2 ^ 56) (λ k h. h.1)) [
  | inl found ↦ (found.0, found.1.0)
  | inr none ↦
      let keys = map mirror us in
      let each : (k : ℕ) → k < 2 ^ 56 → has keys k ≡ true = λ k lt. elim (cases_Bool (has us (uid_of k))) [
        | inl there ↦ ap (has keys) (sym (mirror_of_uid k lt)) ∙ has_map mirror us (uid_of k) there
        | inr lacks ↦ absurd (none (k, (lacks, lt)))
      ] in
      let long = le-length_from_below keys (2 ^ 56) each in
      let same = length-map us mirror in
      absurd (omega (arith, long, same, short))
] where
  below_either : (k n : ℕ) → Either (k < n)
  below_either k n = ⊎_elim (λ lt. inl lt) (λ ge. inr (λ lt. omega (arith, ge, lt))) (cases_lt k n)

-- ---- decided by looking at every UID

equal_either : (m n : ℕ) → Either (m ≡ n)
equal_either m n = elim (cases_Bool (nat_eq m n)) [
  | inl same ↦ inl (eqb-true m n same)
  | inr other ↦ inr (λ e. both_ways _ other (eq-eqb m n e))
]

le_either : (m n : ℕ) → Either (m ≤ n)
le_either m n = ⊎_elim (λ lt. inr (λ le. omega (arith, lt, le))) (λ le. inl le) (cases_lt n m)

uid_either : (u : ℕ) → Either (IsUid u)
uid_either u = and_either (le_either (0xE0 * 2 ^ UID_BITS) u) (le_either (suc u) (0xE1 * 2 ^ UID_BITS))

-- what all UIDs have that pass a test
all_either : (P : ℕ → Type 0) → ((u : ℕ) → Either (P u)) → Either ((u : ℕ) → IsUid u → P u)
all_either P d = elim (some_either (λ u. IsUid u × (P u → ⊥)) (λ u. and_either (uid_either u) (not_either (d u))) uid_end (λ u h. uid_below u h.0)) [
  | inl against ↦ inr (λ all. against.1.1 (all against.0 against.1.0))
  | inr none ↦ inl (λ u is. ⊎_elim (λ it. it) (λ isnt. absurd (none (u, (is, isnt)))) (d u))
]

margin_either : (es : List Entry) (us : List ℕ) (n : ℕ) → Either (IsMarginOfSome es us n)
margin_either es us n = elim (some_either (λ u. IsUid u × ((has us u ≡ false) × (margin_of es u ≡ n))) (λ u. and_either (uid_either u) (and_either (false_either (has us u)) (equal_either (margin_of es u) n))) uid_end (λ u h. uid_below u h.0)) [
  | inl some ↦ inl (record { uid = some.0; is_uid = some.1.0; unlisted = some.1.1.0; margin = some.1.1.1 })
  | inr none ↦ inr (λ some. none (some.uid, (some.is_uid, (some.unlisted, some.margin))))
]

in_mask_either : (es : List Entry) (us : List ℕ) (n : ℕ) (m : BitMask) (u : ℕ) → Either (lies_in m u ≡ true → (has us u ≡ false) × (margin_of es u ≡ n))
in_mask_either es us n m u = elim (cases_Bool (lies_in m u)) [
  | inl lies ↦ ⊎_elim (λ it. inl (λ h. it)) (λ isnt. inr (λ all. isnt (all lies))) (and_either (false_either (has us u)) (equal_either (margin_of es u) n))
  | inr out ↦ inl (λ lies. absurd (both_ways _ out lies))
]

mask_either : (es : List Entry) (us : List ℕ) (n : ℕ) (m : BitMask) → Either (IsOfMargin es us n m)
mask_either es us n m = elim (and_either (le_either m.len 56) (and_either (le_either (suc m.value) (2 ^ m.len)) (all_either (λ u. lies_in m u ≡ true → (has us u ≡ false) × (margin_of es u ≡ n)) (in_mask_either es us n m)))) [
  | inl it ↦ inl (record { short = it.0; fits = it.1.0; unlisted = λ u is lies. (it.1.1 u is lies).0; margin = λ u is lies. (it.1.1 u is lies).1 })
  | inr isnt ↦ inr (λ h. isnt (h.short, (h.fits, λ u is lies. (h.unlisted u is lies, h.margin u is lies))))
]

-- ---- the first mask

-- the masks by one number, which rises with the length, then with the value
abbrev nth_mask : ℕ → BitMask
nth_mask n = record { len = n / 2 ^ 56; value = n % 2 ^ 56 }

abbrev number_of : BitMask → ℕ
number_of m = m.len * 2 ^ 56 + m.value

nth_mask-number_of : (m : BitMask) → m.len ≤ 56 → m.value < 2 ^ m.len → nth_mask (number_of m) ≡ m
nth_mask-number_of m short fits =
    let small : 2 ^ m.len ≤ 2 ^ 56 = pow-le-pow_right (let z : 0 < 2 = omega arith in z) short in
    grind arith

first_by_number : (n : ℕ) (m : BitMask) → n ≤ number_of m → nth_mask (number_of m) ≡ m → IsAtMost (nth_mask n) m
first_by_number n m le same = grind arith

first_mask : (es : List Entry) (us : List ℕ) (n : ℕ) (k : BitMask) → IsOfMargin es us n k → (m : BitMask) × IsFirstMask (IsOfMargin es us n) m
first_mask es us n k h =
    let same = λ (m : BitMask) (g : IsOfMargin es us n m). nth_mask-number_of m g.short g.fits in
    let numbered = λ (m : BitMask) (g : IsOfMargin es us n m). subst (IsOfMargin es us n) (sym (same m g)) g in
    let least = least_of (λ j. IsOfMargin es us n (nth_mask j)) (λ j. mask_either es us n (nth_mask j)) (number_of k) (numbered k h) in
    (nth_mask least.0, (least.1.0, λ m g. first_by_number least.0 m (least.1.1 (number_of m) (numbered m g)) (same m g)))

-- a UID alone is a mask
alone : (es : List Entry) (us : List ℕ) (n u : ℕ) → IsUid u → has us u ≡ false → margin_of es u ≡ n → IsOfMargin es us n (mask_of u)
alone es us n u is out e = record {
  short = omega arith;
  fits = mask_of-value u;
  unlisted = λ w i lies. let same = mask_of-alone u w is i lies in rw same out;
  margin = λ w i lies. let same = mask_of-alone u w is i lies in rw same e;
}

weakest_beside : (es : List Entry) (us : List ℕ) → length us < 2 ^ 56 → (w : Weakest) × IsWeakestBesides es us w
weakest_beside es us short =
    let lacks = some_lacks us short in
    let u = uid_of lacks.0 in
    let first : IsMarginOfSome es us (margin_of es u) = record { uid = u; is_uid = is_uid lacks.0; unlisted = lacks.1; margin = refl } in
    let least = least_of (IsMarginOfSome es us) (margin_either es us) (margin_of es u) first in
    let some = least.1.0 in
    let mask = first_mask es us least.0 (mask_of some.uid) (alone es us least.0 some.uid some.is_uid some.unlisted some.margin) in
    (record { margin = least.0; mask = mask.0 }, record { margin = least.1; mask = mask.1 })

-- ---- of a log

listed_short : (es : List Entry) → length (listed es) ≤ length es
listed_short [] = omega arith
listed_short (Listed u ∷ es) = let h = listed_short es in omega arith
listed_short (e ∷ es) = grind (arith, listed_short es)

pub some_weakest : (version : Version) (lines : List LogLine) → IsLog version lines → (w : Weakest) × IsWeakest (entries lines) w
some_weakest version lines log =
    let es = entries lines in
    let few = listed_short es in
    let long = entries_long lines in
    let all = rising_long 1 lines log.rising in
    let most = log.limit in
    weakest_beside es (listed es) (omega (arith, few, long, all, most))
