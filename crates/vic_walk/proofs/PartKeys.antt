-- The keys of the parts that a test passes, found part by part.
use Rattle.vic_walk.proofs.Words.{◌≡◌, ◌∙◌, ◌==◌, ℕ, zero, suc, ◌+◌, ◌<◌, ◌≤◌, ◌&&◌, ◌||◌, not, [], Bool, true, false, List, arith, nat_tests, refl, sym, subst, cases_lt, inl, inr, nat_eq, nat_le, nat_lt, mirror, mirror_below, slice_index, AreBorders, IsPartOf, part_count, Entry, is_open, slots_before, IsEnd}
use Rattle.std.proofs.Common.{◌^◌, ◌-◌, ◌++◌, ◌∷◌}
use Rattle.std.proofs.lemmas.List.Elements.{All-nil, All-push, All-weaker}
use Rattle.vic_tree.proofs.RangeLaws.{ranges_pushed}
use Rattle.vic_tree.specs.OpenSet.{SameUids}
use Rattle.vic_tree.specs.Ranges.{in_ranges, is_outside}
use Rattle.vic_walk.specs.inner.RangesTo.{AreRangesTo}
use Rattle.vic_walk.proofs.Ending.{open_to_end}
use Rattle.vic_walk.proofs.PartLaws.{end_of_part, part_of_key, up_to}
use Rattle.vic_walk.specs.Walk.{AreEndsAt}

-- ---- the ranges lie in order

pub ranges_to_none : AreRangesTo 0 []
ranges_to_none = record { ranges = tt; apart = All-nil _ }

pub ranges_to_later : (k l : ℕ) (rs : List (ℕ × ℕ)) → k ≤ l → AreRangesTo k rs → AreRangesTo l rs
ranges_to_later k l rs le h = record {
  ranges = h.ranges;
  apart = All-weaker (λ r. r.1 + 2 ≤ k) (λ r. r.1 + 2 ≤ l) (λ r it. omega (arith, it, le)) rs h.apart;
}

pub ranges_to_pushed : (from end : ℕ) (rs : List (ℕ × ℕ)) → from < end → end ≤ 2 ^ 56 → AreRangesTo from rs → AreRangesTo (end + 1) (rs ++ (from, end - 1) ∷ [])
ranges_to_pushed from end rs some small h = record {
  ranges = ranges_pushed 0 rs from (end - 1) h.ranges h.apart (omega arith) (omega (arith, some)) (omega (arith, some, small));
  apart = All-push (λ r. r.1 + 2 ≤ end + 1) rs (from, end - 1) (ranges_to_later from (end + 1) rs (omega (arith, some)) h).apart (omega (arith, some));
}

-- ---- part by part

-- of the first n parts those that pass are in the ranges, except from `from` on, where all pass
pub record AreKeptTo (bs : List ℕ) (test : ℕ → Bool) (n from : ℕ) (rs : List (ℕ × ℕ)) : Type 0 where
  pub upto : from ≤ slice_index bs n
  pub before : (k p : ℕ) → IsPartOf bs k p → k < from → in_ranges rs k ≡ test p
  pub after : (k : ℕ) → from ≤ k → in_ranges rs k ≡ false
  pub pass : (k p : ℕ) → IsPartOf bs k p → from ≤ k → p < n → test p ≡ true

-- a key before the first of part n is in a part before it
part_before : (bs : List ℕ) (k p n : ℕ) → AreBorders bs → IsPartOf bs k p → n ≤ part_count bs → k < slice_index bs n → p < n
part_before bs k p n borders own within lt = elim (cases_lt p n) [
  | inl lt_ ↦ lt_
  | inr ge ↦ let w = own.within in let h = up_to bs n p borders.rising ge (omega (arith, w)) in let from = own.from in absurd (omega (arith, h, from, lt))
]

key_before : (bs : List ℕ) (k p n : ℕ) → AreBorders bs → IsPartOf bs k p → n ≤ part_count bs → p < n → k < slice_index bs n
key_before bs k p n borders own within lt =
    let some = own.within in
    let h = up_to bs (p + 1) n borders.rising (omega (arith, lt)) (omega (arith, within, some)) in
    let end = own.before in
    omega (arith, h, end)

pub none_kept : (bs : List ℕ) (test : ℕ → Bool) → AreKeptTo bs test 0 0 []
none_kept bs test = record {
  upto = omega arith;
  before = λ k p own lt. absurd (omega (arith, lt));
  after = λ k le. refl;
  pass = λ k p own le lt. absurd (omega (arith, lt));
}

-- a part that passes
pub one_passes : (bs : List ℕ) (test : ℕ → Bool) (n from : ℕ) (rs : List (ℕ × ℕ)) → AreBorders bs → n < part_count bs → test n ≡ true → AreKeptTo bs test n from rs → AreKeptTo bs test (n + 1) from rs
one_passes bs test n from rs borders within is i = record {
  upto = let next = (end_of_part bs n borders within).0 in let h = i.upto in omega (arith, next, h);
  before = i.before;
  after = i.after;
  pass = λ k p own le lt. elim (cases_lt p n) [
    | inl earlier ↦ i.pass k p own le earlier
    | inr here ↦ let same : n ≡ p = omega (arith, lt, here) in subst (λ q. test q ≡ true) same is
  ];
}

-- a part that fails
pub one_fails : (bs : List ℕ) (test : ℕ → Bool) (n from first end : ℕ) (rs qs : List (ℕ × ℕ)) → AreBorders bs → n < part_count bs → test n ≡ false → first ≡ slice_index bs n → end ≡ slice_index bs (n + 1)
    → ((k : ℕ) → in_ranges qs k ≡ (in_ranges rs k || nat_le from k && nat_lt k first)) → AreKeptTo bs test n from rs → AreKeptTo bs test (n + 1) end qs
one_fails bs test n from first end rs qs borders within isnt e f more i =
    let upto = i.upto in
    let next = (end_of_part bs n borders within).0 in
    record {
      upto = omega (arith, f);
      before = λ k p own lt. elim (cases_lt k from) [
        | inl low ↦ grind (arith, nat_tests, more k, i.before k p own low, low)
        | inr high ↦ elim (cases_lt k first) [
          | inl inside ↦
              let is_out = i.pass k p own high (part_before bs k p n borders own (omega (arith, within)) (omega (arith, inside, e))) in
              grind (arith, nat_tests, more k, i.after k high, high, inside, is_out)
          | inr here ↦
              let one : p < n + 1 = part_before bs k p (n + 1) borders own (omega (arith, within)) (omega (arith, lt, f)) in
              let last : n ≤ p = (elim (cases_lt p n) [ inl earlier ↦ (let h = key_before bs k p n borders own (omega (arith, within)) earlier in absurd (omega (arith, h, here, e))) | inr later ↦ later ]) in
              let same : n ≡ p = omega (arith, one, last) in
              let fails = subst (λ q. test q ≡ false) same isnt in
              grind (arith, nat_tests, more k, i.after k high, here, fails)
        ]
      ];
      after = λ k le. let high : from ≤ k = omega (arith, le, upto, next, f) in let past : first ≤ k = omega (arith, le, next, e, f) in grind (arith, nat_tests, more k, i.after k high, past);
      pass = λ k p own le lt. let h = key_before bs k p (n + 1) borders own (omega (arith, within)) lt in absurd (omega (arith, h, le, f));
    }

-- all parts
pub all_kept : (bs : List ℕ) (test : ℕ → Bool) (n from : ℕ) (rs qs : List (ℕ × ℕ)) → AreBorders bs → part_count bs ≤ n → ((k : ℕ) → in_ranges qs k ≡ (in_ranges rs k || nat_le from k && nat_lt k (2 ^ 56))) → AreKeptTo bs test n from rs
    → (k p : ℕ) → IsPartOf bs k p → k < 2 ^ 56 → in_ranges qs k ≡ test p
all_kept bs test n from rs qs borders all more i k p own key =
    let within = own.within in
    elim (cases_lt k from) [
      | inl low ↦ grind (arith, nat_tests, more k, i.before k p own low, low)
      | inr high ↦ let is = i.pass k p own high (omega (arith, within, all)) in grind (arith, nat_tests, more k, i.after k high, high, key, is)
    ]

-- ---- what isn't ruled out is open

ended : (es : List Entry) (i u n : ℕ) → IsEnd es i u n → nat_eq n 0 ≡ is_open (slots_before es i) u
ended es i u zero end = sym end
ended es i u (suc j) end = let lt = end.0 in sym (open_to_end es i u (suc j) i end (omega arith) ∙ grind (arith, nat_tests, lt))

pub outside_open : (bs : List ℕ) (es : List Entry) (i : ℕ) (ends : List ℕ) (rs : List (ℕ × ℕ)) → AreBorders bs → AreEndsAt bs es i ends → ((k p : ℕ) → IsPartOf bs k p → k < 2 ^ 56 → in_ranges rs k ≡ not (slice_index ends p == 0)) → SameUids (is_outside rs) (is_open (slots_before es i))
outside_open bs es i ends rs borders at closed u is =
    let key = mirror_below 56 u in
    let own = part_of_key bs (mirror u) borders key in
    let end = ended es i u (slice_index ends own.0) (at.each u own.0 is own.1) in
    grind (arith, nat_tests, closed (mirror u) own.0 own.1 key, end)
