-- Lists in rising order, one longer.
use Rattle.vic_survey.proofs.ValueWords.{Bool, List, Some, [], ap, arith, length, length-append, get_or, refl, slice_get, subst, suc, sym, true, false, ℕ, ◌++◌, ◌+◌, ◌-◌, ◌<◌, ◌∙◌, ◌∷◌, ◌≡◌, nat_lt, nat_tests, BitMask, ShownUid, IsUid, IsLineNumber, IsShort, lt-ltb, ltb-true, ltb-false}
use Rattle.std.proofs.lemmas.List.{map-append, length_push, get_or_append_left, get_or-map}
use Rattle.std.proofs.lemmas.List.Elements.{All-push}
use Rattle.std.proofs.lemmas.List.Quantifiers.{all_pairs_push}
use Rattle.std.proofs.lemmas.Option.{slice_get-get_or}
use Rattle.std.specs.List.{AllPairs}
use Rattle.std.specs.List.Sorted.{IsStrictlyIncreasing}
use Rattle.vic_report.specs.Findings.{uids_of}
use Rattle.vic_tree.specs.OpenMasks.{ComesBefore}
use Rattle.vic_survey.specs.Parts.{AreRisingUids, AreRisingMasks}
use Rattle.vic_survey.specs.inner.Rising.{is_above, is_above_last, is_behind, is_behind_last, comes_before}

-- the last of a list, at its place
last_at : {A : Type 0} (xs : List A) (d : A) → 0 < length xs → slice_get xs (length xs - 1) ≡ Some (get_or xs (length xs - 1) d)
last_at xs d h = slice_get-get_or xs (length xs - 1) d (omega arith)

-- what stands behind a list
at_end : {A : Type 0} (xs ys : List A) (y d : A) → get_or (xs ++ y ∷ ys) (length xs) d ≡ y
at_end [] ys y d = refl
at_end (x ∷ xs) ys y d = at_end xs ys y d

-- ---- UIDs

rising_push : (xs : List ℕ) (x : ℕ) → IsStrictlyIncreasing xs → (0 < length xs → get_or xs (length xs - 1) 0 < x) → IsStrictlyIncreasing (xs ++ x ∷ [])
rising_push xs x h last k lt = by_place (nat_lt (k + 1) (length xs)) refl where
  by_place : (b : Bool) → nat_lt (k + 1) (length xs) ≡ b → get_or (xs ++ x ∷ []) k 0 < get_or (xs ++ x ∷ []) (k + 1) 0
  by_place true e =
      let small : k + 1 < length xs = ltb-true (k + 1) (length xs) e in
      rw (get_or_append_left xs (x ∷ []) 0 k (omega (arith, small)), get_or_append_left xs (x ∷ []) 0 (k + 1) small) (h k small)
  by_place false e =
      let here : k + 1 ≡ length xs = omega (arith, nat_tests, lt, length_push xs x, ltb-false (k + 1) (length xs) e) in
      let place : k ≡ length xs - 1 = omega (arith, here) in
      rw (get_or_append_left xs (x ∷ []) 0 k (omega (arith, here)), here, at_end xs [] x 0, place) (last (omega (arith, here)))

length_uids : (us : List ShownUid) → length (uids_of us) ≡ length us
length_uids [] = refl
length_uids (s ∷ us) = ap suc (length_uids us)

above_is : (us : List ShownUid) (u : ℕ) → is_above us u ≡ true → 0 < length us → get_or (uids_of us) (length (uids_of us) - 1) 0 < u
above_is [] u h some = absurd (omega (arith, some))
above_is (s ∷ us) u h some =
    let place : length (uids_of (s ∷ us)) - 1 ≡ length us = omega (arith, length_uids us) in
    let place_too : length (s ∷ us) - 1 ≡ length us = omega arith in
    let value : get_or (uids_of (s ∷ us)) (length us) 0 ≡ (get_or (s ∷ us) (length us) s).uid = get_or-map (λ (w : ShownUid). w.uid) (s ∷ us) (length us) s 0 (omega arith) in
    let last : slice_get (s ∷ us) (length (s ∷ us) - 1) ≡ Some (get_or (s ∷ us) (length us) s) = ap (slice_get (s ∷ us)) place_too ∙ slice_get-get_or (s ∷ us) (length us) s (omega arith) in
    let t : nat_lt (get_or (s ∷ us) (length us) s).uid u ≡ true = ap (λ o. is_above_last o u) (sym last) ∙ h in
    subst (λ x. x < u) (sym (ap (λ i. get_or (uids_of (s ∷ us)) i 0) place ∙ value)) (ltb-true (get_or (s ∷ us) (length us) s).uid u t)

pub certain_push : (us : List ShownUid) (c : ShownUid) → AreRisingUids us → is_above us c.uid ≡ true → IsUid c.uid → IsLineNumber c.line → AreRisingUids (us ++ c ∷ [])
certain_push us c h above uid line = record {
  rising = rw (map-append (λ (w : ShownUid). w.uid) us (c ∷ [])) (rising_push (uids_of us) c.uid h.rising (λ some. above_is us c.uid above (rw (length_uids us) at some)));
  uids = All-push (λ (s : ShownUid). IsUid s.uid × IsLineNumber s.line) us c h.uids (uid, line);
}

-- ---- masks

pub before_is : (m n : BitMask) → comes_before m n ≡ true → ComesBefore m n
before_is m n h = grind (arith, nat_tests)

before_trans : (a b c : BitMask) → ComesBefore a b → ComesBefore b c → ComesBefore a c
before_trans a b c h k = (
  omega (arith, h.0, k.0),
  λ e.
      let f : a.len ≡ b.len = omega (arith, h.0, k.0, e) in
      let g : b.len ≡ c.len = omega (arith, h.0, k.0, e) in
      omega (arith, h.1 f, k.1 g),
)

behind_all : (ms : List BitMask) (m : BitMask) → AllPairs ComesBefore ms → is_behind ms m ≡ true → (k : ℕ) (d : BitMask) → k < length ms → ComesBefore (get_or ms k d) m
behind_all ms m h behind k d lt = by_place (nat_lt k (length ms - 1)) refl where
  last : ComesBefore (get_or ms (length ms - 1) d) m
  last = before_is (get_or ms (length ms - 1) d) m (rw (last_at ms d (omega (arith, lt))) at behind)

  by_place : (b : Bool) → nat_lt k (length ms - 1) ≡ b → ComesBefore (get_or ms k d) m
  by_place true e = before_trans (get_or ms k d) (get_or ms (length ms - 1) d) m (h k (length ms - 1) d (ltb-true k (length ms - 1) e) (omega (arith, lt))) last
  by_place false e =
      let place : k ≡ length ms - 1 = omega (arith, lt, ltb-false k (length ms - 1) e) in
      rw place last

pub open_push : (ms : List BitMask) (m : BitMask) → AreRisingMasks ms → is_behind ms m ≡ true → IsShort m → AreRisingMasks (ms ++ m ∷ [])
open_push ms m h behind short = record {
  rising = all_pairs_push ComesBefore ms m h.rising (behind_all ms m h.rising behind);
  short = All-push IsShort ms m h.short short;
}

-- ---- the other way round: what stands in such a list

-- the UID behind a list in order is above it
pub certain_next : (us : List ShownUid) (c : ShownUid) (vs : List ShownUid) → AreRisingUids (us ++ c ∷ vs) → is_above us c.uid ≡ true
certain_next [] c vs h = refl
certain_next (s ∷ us) c vs h =
    let all = s ∷ us ++ c ∷ vs in
    let n = length us in
    let place_too : length (s ∷ us) - 1 ≡ n = omega arith in
    let long : suc n < length all = omega (arith, length-append us (c ∷ vs)) in
    let last : slice_get (s ∷ us) (length (s ∷ us) - 1) ≡ Some (get_or (s ∷ us) n s) = ap (slice_get (s ∷ us)) place_too ∙ slice_get-get_or (s ∷ us) n s (omega arith) in
    let below = h.rising n (omega (arith, length_uids all, long)) in
    let left : get_or (uids_of all) n 0 ≡ (get_or (s ∷ us) n s).uid = get_or-map (λ (w : ShownUid). w.uid) all n s 0 (omega (arith, long)) ∙ ap (λ (w : ShownUid). w.uid) (get_or_append_left (s ∷ us) (c ∷ vs) s n (omega arith)) in
    let one : n + 1 ≡ length (s ∷ us) = omega arith in
    let right : get_or (uids_of all) (n + 1) 0 ≡ c.uid = get_or-map (λ (w : ShownUid). w.uid) all (n + 1) s 0 (omega (arith, long)) ∙ ap (λ (w : ShownUid). w.uid) (ap (λ i. get_or all i s) one ∙ at_end (s ∷ us) vs c s) in
    let order : (get_or (s ∷ us) n s).uid < c.uid = rw (left, right) at below in
    ap (λ o. is_above_last o c.uid) last ∙ lt-ltb (get_or (s ∷ us) n s).uid c.uid order

pub certain_at : (us : List ShownUid) (c : ShownUid) (vs : List ShownUid) → AreRisingUids (us ++ c ∷ vs) → IsUid c.uid × IsLineNumber c.line
certain_at us c vs h = subst (λ (s : ShownUid). IsUid s.uid × IsLineNumber s.line) (at_end us vs c c) (h.uids (length us) c (omega (arith, length-append us (c ∷ vs))))

before_back : (m n : BitMask) → ComesBefore m n → comes_before m n ≡ true
before_back m n h = grind (arith, nat_tests)

-- the same of masks
pub open_next : (ms : List BitMask) (m : BitMask) (ns : List BitMask) → AreRisingMasks (ms ++ m ∷ ns) → is_behind ms m ≡ true
open_next [] m ns h = refl
open_next (k ∷ ms) m ns h =
    let all = k ∷ ms ++ m ∷ ns in
    let n = length ms in
    let place_too : length (k ∷ ms) - 1 ≡ n = omega arith in
    let long : suc n < length all = omega (arith, length-append ms (m ∷ ns)) in
    let last : slice_get (k ∷ ms) (length (k ∷ ms) - 1) ≡ Some (get_or (k ∷ ms) n k) = ap (slice_get (k ∷ ms)) place_too ∙ slice_get-get_or (k ∷ ms) n k (omega arith) in
    let before = h.rising n (suc n) k (omega arith) long in
    let left : get_or all n k ≡ get_or (k ∷ ms) n k = get_or_append_left (k ∷ ms) (m ∷ ns) k n (omega arith) in
    let right : get_or all (suc n) k ≡ m = at_end (k ∷ ms) ns m k in
    let order : ComesBefore (get_or (k ∷ ms) n k) m = rw (left, right) at before in
    ap (λ o. is_behind_last o m) last ∙ before_back (get_or (k ∷ ms) n k) m order

pub open_at : (ms : List BitMask) (m : BitMask) (ns : List BitMask) → AreRisingMasks (ms ++ m ∷ ns) → IsShort m
open_at ms m ns h = subst IsShort (at_end ms ns m m) (h.short (length ms) m (omega (arith, length-append ms (m ∷ ns))))

-- the first of a list in order are in order
pub certain_front : (us vs : List ShownUid) → AreRisingUids (us ++ vs) → AreRisingUids us
certain_front us vs h = record {
  rising = λ k lt.
      let all = map-append (λ (w : ShownUid). w.uid) us vs in
      let below = h.rising k (omega (arith, lt, length_uids us, length_uids (us ++ vs), length-append us vs)) in
      rw (all, get_or_append_left (uids_of us) (uids_of vs) 0 k (omega (arith, lt)), get_or_append_left (uids_of us) (uids_of vs) 0 (k + 1) lt) at below;
  uids = λ k d lt. subst (λ (s : ShownUid). IsUid s.uid × IsLineNumber s.line) (get_or_append_left us vs d k lt) (h.uids k d (omega (arith, lt, length-append us vs)));
}

pub open_front : (ms ns : List BitMask) → AreRisingMasks (ms ++ ns) → AreRisingMasks ms
open_front ms ns h = record {
  rising = λ i j d lt short. rw (get_or_append_left ms ns d i (omega (arith, lt, short)), get_or_append_left ms ns d j short) at (h.rising i j d lt (omega (arith, short, length-append ms ns)));
  short = λ k d lt. subst IsShort (get_or_append_left ms ns d k lt) (h.short k d (omega (arith, lt, length-append ms ns)));
}
