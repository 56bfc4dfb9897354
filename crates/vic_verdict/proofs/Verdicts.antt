-- Each log has exactly one verdict.
use Rattle.vic_verdict.proofs.Words.{◌≡◌, ℕ, suc, ◌<◌, ◌≤◌, ◌+◌, ◌^◌, ◌*◌, ◌%◌, ◌/◌, IsAtMost, take, zero, Some, slice_get, sum_by-cons, nat_tests, pow-le-pow_right, List, [], ◌∷◌, length, true, false, refl, sym, ap, subst, arith, inl, inr, ⊎_elim, ◌⊎◌, ◌↔◌, nat_le, filter, le_refl, sum_by, BitMask, Entry, LogLine, Impossible, Complete, lies_in, has, is_uid, IsUid, IsFirstImpossible, IsPossible, IsPossibleUid, IsCertainUid, entries, IsRisingFrom, listed, IsAbsent, IsUnlisted, IsUnsettled, IsDoubtful, IsLeast, IsFirstMask, NoSuch, IsVerdict, is_uid_from, IsUid-from, IsUid-member, entries_to, IsWhole, IsAllHeard, sum_by_more_le, Absent, Unlisted, Unsettled, Doubtful}
use Rattle.vic_verdict.proofs.Failing.{place_of}
use Rattle.vic_verdict.specs.declared.judging.Verdict.{Verdict}
use Rattle.vic_verdict.proofs.FirstLines.{first_entries, possible_first, possible_shorter}
use Rattle.vic_verdict.proofs.Listing.{number_above}
use Rattle.vic_verdict.proofs.Search.{Either, test_either, false_either, not_either, and_either, least_by, least_of, least_or_none}
use Rattle.vic_verdict.proofs.Populations.{uid_end, uid_below}
use Rattle.vic_verdict.proofs.Possibility.{heard_certain}
use Rattle.vic_verdict.proofs.Decide.{IsPossible-either, IsPossibleUid-either, IsCertainUid-either}
use Rattle.vic_verdict.proofs.Masks.{mask_of, mask_of-alone, mask_of-value, uid_in, IsUid-in, lies_in-uid_in}

-- ---- the lines 1 to n

abbrev lines_to : ℕ → List LogLine → List LogLine
lines_to n lines = filter (λ l. nat_le l.number n) lines

abbrev count_to : ℕ → List LogLine → ℕ
count_to n lines = length (lines_to n lines)

none_to : (n k : ℕ) (lines : List LogLine) → n ≤ k → IsRisingFrom k lines → lines_to n lines ≡ []
none_to n k [] h r = refl
none_to n k (l ∷ lines) h r = grind (arith, nat_tests, none_to n l.number lines)

-- they are so many first lines
first_to : (n below : ℕ) (lines : List LogLine) → IsRisingFrom below lines → entries_to n lines ≡ entries (take (count_to n lines) lines)
first_to n below [] r = refl
first_to n below (l ∷ lines) r = grind (arith, nat_tests, none_to n l.number lines, first_to n l.number lines)

-- those with a number up to n
is_within : (n below : ℕ) (lines : List LogLine) (i : ℕ) (l : LogLine) → IsRisingFrom below lines → slice_get lines i ≡ Some l → (i < count_to n lines) ↔ (l.number ≤ n)
is_within n below [] i l r k = cc
is_within n below (x ∷ lines) zero l r k = grind (arith, nat_tests, none_to n x.number lines)
is_within n below (x ∷ lines) (suc i) l r k = grind (arith, nat_tests, none_to n x.number lines, number_above x.number lines i l, is_within n x.number lines i l)

-- all lines, up to a number that is above each
all_to : (n : ℕ) (lines : List LogLine) → sum_by (λ (l : LogLine). l.number) lines ≤ n → entries_to n lines ≡ entries lines
all_to n [] h = refl
all_to n (l ∷ lines) h = grind (arith, nat_tests, sum_by-cons (λ (x : LogLine). x.number) l lines, all_to n lines)

-- a possible log has no impossible line
pub possible_to : (lines : List LogLine) → IsRisingFrom 0 lines → IsPossible (entries lines) → (n : ℕ) → IsPossible (entries_to n lines)
possible_to lines r p n = subst IsPossible (sym (first_to n 0 lines r)) (possible_first (count_to n lines) lines p)

-- where the first lines are possible and the line after some of them makes these impossible, its number is the verdict's
first_impossible : (lines : List LogLine) (k low : ℕ) (l : LogLine) → IsRisingFrom 0 lines → slice_get lines k ≡ Some l → k ≤ low → IsPossible (entries (take low lines)) → (IsPossible (entries (take (k + 1) lines)) → ⊥) → IsVerdict lines (Impossible l.number)
first_impossible lines k low l r g le p n =
    let within = λ (m : ℕ). is_within m 0 lines k l r g in
    least_by (λ m. IsPossible (entries_to m lines) → ⊥) l.number
    (λ q. n (possible_shorter (k + 1) (count_to l.number lines) lines (let w = (within l.number).1 (omega arith) in omega arith) (subst IsPossible (first_to l.number 0 lines r) q)))
    (λ m h q. q (subst IsPossible (sym (first_to m 0 lines r)) (possible_shorter (count_to m lines) low lines (grind (arith, within m)) p)))

-- so that of the first position up to which they are impossible is
pub first_line : (lines : List LogLine) (i : ℕ) (l : LogLine) → IsRisingFrom 0 lines → slice_get lines i ≡ Some l → IsFirstImpossible (entries lines) i → IsVerdict lines (Impossible l.number)
first_line lines i l r g first = first_impossible lines i i l r g (omega arith) (rw first_entries first.before) (λ possible. first.impossible (rw first_entries at possible))

-- ---- at most one verdict

least_same : (P : ℕ → Type 0) (m n : ℕ) → IsLeast P m → IsLeast P n → m ≡ n
least_same P m n h k = let a = h.1 n k.0 in let b = k.1 m h.0 in omega arith

first_mask_same : (P : BitMask → Type 0) (m k : BitMask) → IsFirstMask P m → IsFirstMask P k → m ≡ k
first_mask_same P m k h g = grind (arith, h.1 k g.0, g.1 m h.0)

pub one_verdict : (lines : List LogLine) → IsRisingFrom 0 lines → (v w : Verdict) → IsVerdict lines v → IsVerdict lines w → v ≡ w
one_verdict lines r (Impossible n1) (Impossible n2) h k = ap Impossible (least_same _ n1 n2 h k)
one_verdict lines r (Impossible n1) w h k = absurd (h.0 (possible_to lines r k.0 n1))
one_verdict lines r v (Impossible n2) h k = absurd (k.0 (possible_to lines r h.0 n2))
one_verdict lines r (Unsettled m1) (Unsettled m2) h k = ap Unsettled (first_mask_same (IsUnsettled (entries lines)) m1 m2 h.3 k.3)
one_verdict lines r v w h k = grind arith

-- ---- at least one verdict

-- the least number of which P holds, or none
abbrev OrNone : (ℕ → Type 0) → Type 0
OrNone P = ((u : ℕ) × IsLeast P u) ⊎ NoSuch P

listed_or_none : (es : List Entry) (P : ℕ → Type 0) → ((u : ℕ) → Either (P u)) → OrNone (λ u. (has (listed es) u ≡ true) × (P u → ⊥))
listed_or_none es P d =
    least_or_none _ (λ u. and_either (test_either (has (listed es) u)) (not_either (d u))) (suc (sum_by (λ (u : ℕ). u) (listed es)))
    (λ u h. let k = place_of (listed es) u 0 h.0 in omega (arith, sum_by_more_le (λ (v : ℕ). v) (listed es) k.0 0 k.1, k.2))

unlisted_or_none : (es : List Entry) → IsPossible es → OrNone (IsUnlisted es)
unlisted_or_none es p =
    least_or_none (IsUnlisted es)
    (λ u. and_either (IsCertainUid-either es u p) (false_either (has (listed es) u)))
    uid_end
    (λ u h. uid_below u (IsUid-member p.0 u p.1 (h.0 p.0 p.1 p.2)))

all_either : (es : List Entry) (m : BitMask) → IsPossible es → Either ((u : ℕ) → IsUid u → lies_in m u ≡ true → IsPossibleUid es u × (has (listed es) u ≡ false))
all_either es m p =
    let P : ℕ → Type 0 = λ u. (is_uid u ≡ true) × ((lies_in m u ≡ true) × (IsPossibleUid es u × (has (listed es) u ≡ false) → ⊥)) in
    let left : (u : ℕ) → Either (IsPossibleUid es u × (has (listed es) u ≡ false)) = λ u. and_either (IsPossibleUid-either es u p) (false_either (has (listed es) u)) in
    elim (least_or_none P (λ u. and_either (test_either (is_uid u)) (and_either (test_either (lies_in m u)) (not_either (left u)))) uid_end (λ u h. uid_below u (IsUid-from u h.0))) [
      | inl against ↦ let h = against.1.0 in inr (λ all. h.1.1 (all against.0 (IsUid-from against.0 h.0) h.1.0))
      | inr none ↦ inl (λ u i lies. ⊎_elim (λ yes. yes) (λ no. absurd (none u (is_uid_from u i, (lies, no)))) (left u))
    ]

unsettled_either : (es : List Entry) (m : BitMask) → IsPossible es → Either (IsUnsettled es m)
unsettled_either es m p = grind (arith, all_either es m p)

-- the masks by one number, which rises with the length, then with the value
abbrev nth_mask : ℕ → BitMask
nth_mask n = record { len = n / 2 ^ 56; value = n % 2 ^ 56 }

abbrev number_of : BitMask → ℕ
number_of m = m.len * 2 ^ 56 + m.value

nth_mask-number_of : (m : BitMask) → m.len ≤ 56 → m.value < 2 ^ m.len → nth_mask (number_of m) ≡ m
nth_mask-number_of m short fits =
    let small : 2 ^ m.len ≤ 2 ^ 56 = pow-le-pow_right (let z : 0 < 2 = omega arith in z) short in
    grind arith

first_by_number : (n : ℕ) (m : BitMask) → n ≤ number_of m → nth_mask (number_of m) ≡ m → IsAtMost (nth_mask n) m
first_by_number n m le same = grind arith

unsettled_or_none : (es : List Entry) → IsPossible es → ((m : BitMask) × IsFirstMask (IsUnsettled es) m) ⊎ NoSuch (IsUnsettled es)
unsettled_or_none es p =
    let same = λ (m : BitMask) (h : IsUnsettled es m). nth_mask-number_of m h.0 h.1 in
    let numbered = λ (m : BitMask) (h : IsUnsettled es m). subst (IsUnsettled es) (sym (same m h)) h in
    elim (least_or_none (λ n. IsUnsettled es (nth_mask n)) (λ n. unsettled_either es (nth_mask n) p) (57 * 2 ^ 56) (λ n h. let short : n / 2 ^ 56 ≤ 56 = h.0 in omega arith)) [
      | inl n ↦ inl (nth_mask n.0, (n.1.0, λ m h. first_by_number n.0 m (n.1.1 (number_of m) (numbered m h)) (same m h)))
      | inr none ↦ inr (λ m h. none (number_of m) (numbered m h))
    ]

first_verdict : (lines : List LogLine) → IsPossible (entries lines) → OrNone (IsAbsent (entries lines)) → OrNone (IsUnlisted (entries lines)) → ((m : BitMask) × IsFirstMask (IsUnsettled (entries lines)) m) ⊎ NoSuch (IsUnsettled (entries lines)) → OrNone (IsDoubtful (entries lines)) → (v : Verdict) × IsVerdict lines v
first_verdict lines p (inl a) b m d = (Absent a.0, (p, a.1))
first_verdict lines p (inr a) (inl b) m d = (Unlisted b.0, (p, a, b.1))
first_verdict lines p (inr a) (inr b) (inl m) d = (Unsettled m.0, (p, a, b, m.1))
first_verdict lines p (inr a) (inr b) (inr m) (inl d) = (Doubtful d.0, (p, a, b, m, d.1))
first_verdict lines p (inr a) (inr b) (inr m) (inr d) = (Complete (length (listed (entries lines))), (p, a, b, m, d, refl))

pub some_verdict : (lines : List LogLine) → (v : Verdict) × IsVerdict lines v
some_verdict lines =
    let es = entries lines in
    elim (IsPossible-either es) [
      | inl p ↦ first_verdict lines p (listed_or_none es (IsPossibleUid es) (λ u. IsPossibleUid-either es u p)) (unlisted_or_none es p) (unsettled_or_none es p) (listed_or_none es (IsCertainUid es) (λ u. IsCertainUid-either es u p))
      | inr not_ ↦
          let last = sum_by (λ (l : LogLine). l.number) lines in
          let n = least_of (λ k. IsPossible (entries_to k lines) → ⊥) (λ k. not_either (IsPossible-either (entries_to k lines))) last (rw (all_to last lines (le_refl last)) not_) in
          (Impossible n.0, n.1)
    ]

-- ---- the cases 4 and 6 in other words

-- a mask is unsettled if and only if an unlisted UID is possible
pub unsettled_iff : (es : List Entry) → ((m : BitMask) × IsUnsettled es m) ↔ ((u : ℕ) × IsPossibleUid es u × (has (listed es) u ≡ false))
unsettled_iff es = (
  (λ h. let m = h.0 in let w = h.1.2 (uid_in m) (IsUid-in m h.1.0 h.1.1) (lies_in-uid_in m h.1.0 h.1.1) in (uid_in m, w.0, w.1)),
  (λ h.
      let i = IsUid-member h.1.0 h.0 h.1.1 h.1.3 in
      (mask_of h.0, (le_refl 56, mask_of-value h.0, λ w j k. rw (mask_of-alone h.0 w i j k) (h.1, h.2)))),
)

-- a log is complete where it is settled
pub complete_whole : (lines : List LogLine) (count : ℕ) → IsVerdict lines (Complete count) → IsWhole (entries lines)
complete_whole lines count h = (h.0, λ p i g u. grind (arith, nat_tests, (unsettled_iff (entries lines)).1, h.3, h.4 u))

pub whole_complete : (lines : List LogLine) → IsWhole (entries lines) → IsVerdict lines (Complete (length (listed (entries lines))))
whole_complete lines h = let p = h.0 in grind (arith, nat_tests, h.1 p.0 p.1 p.2, unsettled_iff (entries lines))

-- a log whose listed UIDs were all heard, and no other possible, is complete
pub all_heard_complete : (lines : List LogLine) → IsAllHeard (entries lines) → IsVerdict lines (Complete (length (listed (entries lines))))
all_heard_complete lines h = whole_complete lines (h.0, λ p i g u. grind (arith, nat_tests, h.1 u, h.2 u, heard_certain (entries lines)))
