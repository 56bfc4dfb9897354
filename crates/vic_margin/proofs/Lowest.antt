-- The least margin of some keys, found part by part.
use Rattle.vic_margin.proofs.Words.{◌≡◌, ℕ, ◌+◌, ◌-◌, ◌^◌, ◌<◌, ◌≤◌, ◌≢◌, both_ways, Bool, true, false, ◌||◌, List, Option, Some, None, length, nat_lt, slice_index, inl, inr, sym, ap, subst, ◌∙◌, arith, nat_tests, cases_lt, cases_Bool, or_cases, or_left, or_right, and_parts, has, IsKey, AreBorders, IsPartOf, within}
use Rattle.vic_walk.proofs.PartLaws.{key_of_part, one_part, parts_rise}
use Rattle.std.proofs.Common.{IfSome}
use Rattle.std.specs.List.Sorted.{IsNonDecreasing}
use Rattle.vic_verdict.proofs.Failing.{member_at, place_of}
use Rattle.vic_margin.specs.inner.Least.{HasMargin, IsLeastOf, IsUpTo, is_free, lesser}

-- the keys from `from` on and before `end`, of the parts before part n
pub record IsPassed (bs : List ℕ) (from end n k : ℕ) : Type 0 where
  pub from_on : from ≤ k
  pub before : k < end
  pub part : ℕ
  pub of : IsPartOf bs k part
  pub part_before : part < n

-- the least margin so far: of the wanted keys, and of those passed
pub record IsLeastTo (bs margins : List ℕ) (wanted : ℕ → Bool) (from end n : ℕ) (r : Option ℕ) : Type 0 where
  pub found : IfSome r (HasMargin bs margins (λ k. wanted k || within from end k))
  pub least : (k p : ℕ) → wanted k ≡ true → IsPartOf bs k p → IsUpTo r (slice_index margins p)
  pub passed : (k p : ℕ) → IsPassed bs from end n k → IsPartOf bs k p → IsUpTo r (slice_index margins p)

more_wanted : (bs margins : List ℕ) (wanted : ℕ → Bool) (from end : ℕ) (r : Option ℕ) → IfSome r (HasMargin bs margins wanted) → IfSome r (HasMargin bs margins (λ k. wanted k || within from end k))
more_wanted bs margins wanted from end None h = h
more_wanted bs margins wanted from end (Some m) h = record { key = h.key; part = h.part; is_wanted = or_left _ _ h.is_wanted; of = h.of; margin = h.margin }

pub least_start : (bs margins : List ℕ) (wanted : ℕ → Bool) (from end n : ℕ) (r : Option ℕ) → AreBorders bs → IsPartOf bs from n → IsLeastOf bs margins wanted r → IsLeastTo bs margins wanted from end n r
least_start bs margins wanted from end n r borders first h = record {
  found = more_wanted bs margins wanted from end r h.found;
  least = h.least;
  passed = λ k p passed own.
      let le = parts_rise bs from k n passed.part borders passed.from_on first passed.of in
      let lt = passed.part_before in
      absurd (omega (arith, le, lt));
}

-- the lesser is up to both
lesser_first : (r : Option ℕ) (m n : ℕ) → IsUpTo r n → IsUpTo (Some (lesser r m)) n
lesser_first (Some l) m n h = grind (arith, nat_tests, h)
lesser_first None m n h = absurd h

lesser_second : (r : Option ℕ) (m : ℕ) → IsUpTo (Some (lesser r m)) m
lesser_second (Some l) m = grind (arith, nat_tests)
lesser_second None m = omega arith

lesser_found : (bs margins : List ℕ) (wanted : ℕ → Bool) (r : Option ℕ) (m : ℕ) → IfSome r (HasMargin bs margins wanted) → HasMargin bs margins wanted m → HasMargin bs margins wanted (lesser r m)
lesser_found bs margins wanted (Some l) m h g = elim (cases_Bool (nat_lt l m)) [
  | inl less ↦ rw less h
  | inr more ↦ rw more g
]
lesser_found bs margins wanted None m h g = g

-- the part has a key from `from` on and before `end`
key_between : (bs : List ℕ) (from end first last n : ℕ) → AreBorders bs → from < end → IsPartOf bs from first → IsPartOf bs (end - 1) last → first ≤ n → n ≤ last → (k : ℕ) × (within from end k ≡ true) × IsPartOf bs k n
key_between bs from end first last n borders some at_first at_last low high = elim (cases_lt first n) [
  | inl after ↦
      let w = at_last.within in
      let key = (key_of_part bs n borders (omega (arith, w, high))).0 in
      let up : from < slice_index bs n = elim (cases_lt from (slice_index bs n)) [
        | inl lt ↦ lt
        | inr ge ↦ let h = parts_rise bs (slice_index bs n) from n first borders ge key at_first in absurd (omega (arith, h, after))
      ] in
      let down : slice_index bs n < end = elim (cases_lt (slice_index bs n) end) [
        | inl lt ↦ lt
        | inr ge ↦
            let h = parts_rise bs (end - 1) (slice_index bs n) last n borders (omega (arith, ge)) at_last key in
            let same : n ≡ last = omega (arith, h, high) in
            let from_last = at_last.from in
            let bad : slice_index bs n ≤ end - 1 = rw same from_last in
            absurd (omega (arith, bad, ge, some))
      ] in
      (slice_index bs n, grind (arith, nat_tests, up, down), key)
  | inr here ↦
      let same : first ≡ n = omega (arith, low, here) in
      (from, grind (arith, nat_tests, some), subst (IsPartOf bs from) same at_first)
]

pub least_next : (bs margins : List ℕ) (wanted : ℕ → Bool) (from end first last n m : ℕ) (r : Option ℕ) → AreBorders bs → from < end → IsPartOf bs from first → IsPartOf bs (end - 1) last → first ≤ n → n ≤ last → m ≡ slice_index margins n
    → IsLeastTo bs margins wanted from end n r → IsLeastTo bs margins wanted from end (n + 1) (Some (lesser r m))
least_next bs margins wanted from end first last n m r borders some at_first at_last low high is h =
    let key = key_between bs from end first last n borders some at_first at_last low high in
    record {
      found = lesser_found bs margins (λ k. wanted k || within from end k) r m h.found (record { key = key.0; part = n; is_wanted = or_right _ _ key.1; of = key.2; margin = sym is });
      least = λ k p it own. lesser_first r m _ (h.least k p it own);
      passed = λ k p passed own. elim (cases_lt passed.part n) [
        | inl earlier ↦ lesser_first r m _ (h.passed k p (record { from_on = passed.from_on; before = passed.before; part = passed.part; of = passed.of; part_before = earlier }) own)
        | inr here ↦
            let lt = passed.part_before in
            let same : passed.part ≡ n = omega (arith, lt, here) in
            let one = one_part bs k p passed.part borders own passed.of in
            let e : p ≡ n = one ∙ same in
            subst (IsUpTo (Some (lesser r m))) (is ∙ ap (slice_index margins) (sym e)) (lesser_second r m)
      ];
    }

least_end_at : (bs margins : List ℕ) (wanted : ℕ → Bool) (from end last n k p : ℕ) (r : Option ℕ) → AreBorders bs → IsPartOf bs (end - 1) last → last < n → IsLeastTo bs margins wanted from end n r → (wanted k || within from end k) ≡ true → IsPartOf bs k p → IsUpTo r (slice_index margins p)
least_end_at bs margins wanted from end last n k p r borders at_last all h it own = elim (or_cases _ _ it) [
  | inl old ↦ h.least k p old own
  | inr new ↦
      let low : from ≤ k = grind (arith, nat_tests, and_parts) in
      let high : k < end = grind (arith, nat_tests, and_parts) in
      let le = parts_rise bs k (end - 1) p last borders (omega (arith, high)) own at_last in
      h.passed k p (record { from_on = low; before = high; part = p; of = own; part_before = omega (arith, le, all) }) own
]

pub least_end : (bs margins : List ℕ) (wanted : ℕ → Bool) (from end last n : ℕ) (r : Option ℕ) → AreBorders bs → IsPartOf bs (end - 1) last → last < n → IsLeastTo bs margins wanted from end n r → IsLeastOf bs margins (λ k. wanted k || within from end k) r
least_end bs margins wanted from end last n r borders at_last all h = record {
  found = h.found;
  least = λ k p it own. least_end_at bs margins wanted from end last n k p r borders at_last all h it own;
}

same_found : (bs margins : List ℕ) (old new : ℕ → Bool) (r : Option ℕ) → ((k : ℕ) → old k ≡ new k) → IfSome r (HasMargin bs margins old) → IfSome r (HasMargin bs margins new)
same_found bs margins old new None same h = h
same_found bs margins old new (Some m) same h = record { key = h.key; part = h.part; is_wanted = sym (same h.key) ∙ h.is_wanted; of = h.of; margin = h.margin }

pub least_same : (bs margins : List ℕ) (old new : ℕ → Bool) (r : Option ℕ) → ((k : ℕ) → old k ≡ new k) → IsLeastOf bs margins old r → IsLeastOf bs margins new r
least_same bs margins old new r same h = record {
  found = same_found bs margins old new r same h.found;
  least = λ k p it own. h.least k p (same k ∙ it) own;
}

none_between : (from end k : ℕ) → end ≤ from → within from end k ≡ false
none_between from end k le = grind (arith, nat_tests)

pub least_kept : (bs margins : List ℕ) (wanted : ℕ → Bool) (from end : ℕ) (r : Option ℕ) → end ≤ from → IsLeastOf bs margins wanted r → IsLeastOf bs margins (λ k. wanted k || within from end k) r
least_kept bs margins wanted from end r le h = least_same bs margins wanted (λ k. wanted k || within from end k) r (λ k. let isnt = none_between from end k le in grind (arith, nat_tests, isnt)) h

-- ---- key by key

-- keys before number n are below `from`, and it isn't above those that follow them
pub record IsPast (keys : List ℕ) (n from : ℕ) : Type 0 where
  pub below : (j : ℕ) → j < n → j < length keys → slice_index keys j < from
  pub upto : (j : ℕ) → n ≤ j → j < length keys → from ≤ slice_index keys j + 1
  pub small : from ≤ 2 ^ 56

pub past_none : (keys : List ℕ) → IsPast keys 0 0
past_none keys = record { below = λ j lt within_. absurd (omega (arith, lt)); upto = λ j le lt. omega arith; small = omega arith }

pub past_next : (keys : List ℕ) (n from key : ℕ) → IsNonDecreasing keys → IsKey key → n < length keys → key ≡ slice_index keys n → IsPast keys n from → IsPast keys (n + 1) (key + 1)
past_next keys n from key order small within_ is h = record {
  below = λ j lt at. let le = order j n 0 (omega (arith, lt)) within_ in omega (arith, le, is);
  upto = λ j le lt. let up = order n j 0 (omega (arith, le)) lt in omega (arith, up, is);
  small = omega (arith, small);
}

-- a key of the list isn't between
not_between : (keys : List ℕ) (n from end k : ℕ) → IsNonDecreasing keys → (n < length keys → end ≤ slice_index keys n) → IsPast keys n from → has keys k ≡ true → within from end k ≡ false
not_between keys n from end k order next h there =
    let at = place_of keys k 0 there in
    elim (cases_lt at.0 n) [
      | inl before ↦ let lt = h.below at.0 before at.1 in let e = at.2 in grind (arith, nat_tests, lt, e)
      | inr after ↦
          let le = order n at.0 0 after at.1 in
          let e = at.2 in
          let up = next (omega (arith, after, at.1)) in
          grind (arith, nat_tests, le, e, up)
    ]

pub free_next : (keys : List ℕ) (n from key k : ℕ) → IsNonDecreasing keys → n < length keys → key ≡ slice_index keys n → IsPast keys n from → (is_free keys from k || within from key k) ≡ is_free keys (key + 1) k
free_next keys n from key k order within_ is h = elim (cases_Bool (has keys k)) [
  | inl there ↦
      let isnt = not_between keys n from key k order (λ lt. omega (arith, is)) h there in
      rw (there, isnt) (grind (arith, nat_tests))
  | inr free ↦
      let up = h.upto n (omega arith) within_ in
      let other : k ≢ key = λ e. both_ways (has keys k) free (member_at keys n k 0 within_ (sym is ∙ sym e)) in
      rw free (grind (arith, nat_tests, up, is, other))
]

pub free_end : (keys : List ℕ) (n from k : ℕ) → IsNonDecreasing keys → length keys ≤ n → IsPast keys n from → (is_free keys from k || within from (2 ^ 56) k) ≡ is_free keys (2 ^ 56) k
free_end keys n from k order all h = elim (cases_Bool (has keys k)) [
  | inl there ↦
      let isnt = not_between keys n from (2 ^ 56) k order (λ lt. absurd (omega (arith, lt, all))) h there in
      rw (there, isnt) (grind (arith, nat_tests))
  | inr free ↦ let small = h.small in rw free (grind (arith, nat_tests, small))
]

pub none_free : (bs margins keys : List ℕ) → IsLeastOf bs margins (is_free keys 0) None
none_free bs margins keys = record { found = tt; least = λ k p it own. let isnt : is_free keys 0 k ≡ false = grind (arith, nat_tests) in absurd (both_ways _ isnt it) }
