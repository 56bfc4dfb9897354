-- UIDs gathered from one marked part after another.
use Rattle.vic_walk.proofs.Words.{◌≡◌, ◌∙◌, ℕ, ◌+◌, ◌<◌, ◌≤◌, inl, inr, Bool, true, false, List, [], length, arith, nat_tests, sym, ap, subst, cases_lt, and_parts, and_from, nat_le, nat_lt, IsUid, has, mirror, slice_index, AreBorders, IsPartOf, IsFirst, NoneBetween, is_marked, part_count, mirror_below, mirror_of_uid, uid_of, uid_of_mirror, IsKey, is_uid, refl}
use Rattle.std.proofs.lemmas.Bool.{both_ways}
use Rattle.vic_tree.proofs.GatheringLaws.{gathers_both, gathers_full}
use Rattle.vic_tree.specs.Gathering.{Gathers}
use Rattle.vic_tree.specs.OpenSet.{UpToThree}
use Rattle.vic_walk.proofs.PartLaws.{one_part, part_of_key}
use Rattle.vic_walk.specs.declared.steps.Span.{Span}
use Rattle.vic_walk.specs.Steps.{is_within}
use Rattle.vic_walk.specs.inner.PartUids.{AreUidsOf, HasKey}

-- a UID that the test passes, in a part before `from`
pub record IsBefore (bs : List ℕ) (test : ℕ → Bool) (from u : ℕ) : Type 0 where
  pub passes : test u ≡ true
  pub part : (p : ℕ) → IsPartOf bs (mirror u) p → p < from

-- ---- keys, one after another

pub none_keyed : (first u : ℕ) → HasKey first first u → ⊥
none_keyed first u h = absurd (let low = h.from in let high = h.before in omega (arith, low, high))

pub gathers_none : (P : ℕ → Type 0) (us : List ℕ) → ((u : ℕ) → P u → ⊥) → Gathers P us us
gathers_none P us none = record {
  keeps = λ u h. h;
  only = λ u h. inl h;
  different = λ d. d;
  all = λ l u p. absurd (none u p);
  longer = omega arith;
}

pub gathers_key : (first key : ℕ) (xs ys zs : List ℕ) → IsKey key → first ≤ key → Gathers (HasKey first key) xs ys → Gathers (λ u. (u ≡ uid_of key) × (has [] u ≡ false)) ys zs → Gathers (HasKey first (key + 1)) xs zs
gathers_key first key xs ys zs small low before here =
    let back = mirror_of_uid key small in
    gathers_both (HasKey first key) (λ u. (u ≡ uid_of key) × (has [] u ≡ false)) (HasKey first (key + 1)) xs ys zs
    (λ u h. record { is_uid = h.is_uid; from = h.from; before = let lt = h.before in omega (arith, lt) })
    (λ u h. let at : mirror u ≡ key = ap mirror h.0 ∙ back in record { is_uid = subst IsUid (sym h.0) (is_uid key); from = omega (arith, at, low); before = omega (arith, at) })
    (λ u h. elim (cases_lt (mirror u) key) [
      | inl earlier ↦ inl (record { is_uid = h.is_uid; from = h.from; before = earlier })
      | inr later ↦ let at : mirror u ≡ key = (let lt = h.before in omega (arith, lt, later)) in inr (sym (uid_of_mirror u h.is_uid) ∙ ap uid_of at, refl)
    ])
    before here

-- of a full list more may be wanted
pub gathers_more : (first key end : ℕ) (xs ys : List ℕ) → key ≤ end → 3 ≤ length ys → Gathers (HasKey first key) xs ys → Gathers (HasKey first end) xs ys
gathers_more first key end xs ys le full g = gathers_full (HasKey first key) (HasKey first end) xs ys (λ u h. record { is_uid = h.is_uid; from = h.from; before = let lt = h.before in omega (arith, lt, le) }) full g

-- ---- the part of a UID

of_part : (bs : List ℕ) (marks : List Bool) (s : Span) (test : ℕ → Bool) (u : ℕ) → AreBorders bs → AreUidsOf bs marks s test → test u ≡ true → (p : ℕ) × IsPartOf bs (mirror u) p × (is_within s p ≡ true) × (is_marked marks p ≡ true)
of_part bs marks s test u borders of passes =
    let is = of.uids u passes in
    let own = part_of_key bs (mirror u) borders (mirror_below 56 u) in
    let both = and_parts (is_within s own.0) (is_marked marks own.0) (sym (of.marked u own.0 is own.1) ∙ passes) in
    (own.0, own.1, both.0, both.1)

inside : (s : Span) (p : ℕ) → is_within s p ≡ true → (s.from ≤ p) × (p < s.to)
inside s p is = let both = and_parts (nat_le s.from p) (nat_lt p s.to) is in (grind (arith, nat_tests, both.0), grind (arith, nat_tests, both.1))

-- before the first part of the span is none
pub none_before_span : (bs : List ℕ) (marks : List Bool) (s : Span) (test : ℕ → Bool) (u : ℕ) → AreBorders bs → AreUidsOf bs marks s test → IsBefore bs test s.from u → ⊥
none_before_span bs marks s test u borders of h =
    let own = of_part bs marks s test u borders of h.passes in
    let low = (inside s own.0 own.2).0 in
    let high = h.part own.0 own.1 in
    absurd (omega (arith, low, high))

-- one more part
gathers_part : (bs : List ℕ) (marks : List Bool) (s : Span) (test : ℕ → Bool) (from part : ℕ) (xs ys : List ℕ) → AreBorders bs → AreUidsOf bs marks s test → s.from ≤ from → part < s.to → part < part_count bs → IsFirst (is_marked marks) from part
    → Gathers (IsBefore bs test from) [] xs → Gathers (HasKey (slice_index bs part) (slice_index bs (part + 1))) xs ys → Gathers (IsBefore bs test (part + 1)) [] ys
gathers_part bs marks s test from part xs ys borders of low high within first before here =
    let le = first.from in
    gathers_both (IsBefore bs test from) (HasKey (slice_index bs part) (slice_index bs (part + 1))) (IsBefore bs test (part + 1)) [] xs ys
    (λ u h. record { passes = h.passes; part = λ p own. let lt = h.part p own in omega (arith, lt, le) })
    (λ u h.
    let own : IsPartOf bs (mirror u) part = record { within = within; from = h.from; before = h.before } in
    record {
      passes = of.marked u part h.is_uid own ∙ and_from _ _ (grind (arith, nat_tests, low, high, le)) first.passes;
      part = λ p other. let same = one_part bs (mirror u) p part borders other own in omega (arith, same);
    })
    (λ u h.
    let own = of_part bs marks s test u borders of h.passes in
    let upto = h.part own.0 own.1 in
    elim (cases_lt own.0 from) [
      | inl earlier ↦ inl (record { passes = h.passes; part = λ p other. let same = one_part bs (mirror u) p own.0 borders other own.1 in omega (arith, same, earlier) })
      | inr later ↦ elim (cases_lt own.0 part) [
        | inl between ↦ absurd (both_ways _ (first.before own.0 later between) own.3)
        | inr at ↦ let same : own.0 ≡ part = omega (arith, at, upto) in let here = subst (IsPartOf bs (mirror u)) same own.1 in inr (record { is_uid = of.uids u h.passes; from = here.from; before = here.before })
      ]
    ])
    before here

-- the same, as a part's first key and its end are computed
pub gathers_found : (bs : List ℕ) (marks : List Bool) (s : Span) (test : ℕ → Bool) (from part first end : ℕ) (xs ys : List ℕ) → AreBorders bs → AreUidsOf bs marks s test → s.from ≤ from → part < s.to → s.to ≤ part_count bs → IsFirst (is_marked marks) from part
    → first ≡ slice_index bs part → end ≡ slice_index bs (part + 1) → Gathers (IsBefore bs test from) [] xs → Gathers (HasKey first end) xs ys → Gathers (IsBefore bs test (part + 1)) [] ys
gathers_found bs marks s test from part first end xs ys borders of low high within is e f before here = gathers_part bs marks s test from part xs ys borders of low high (omega (arith, high, within)) is before (rw (e, f) at here)

-- ---- all

pub three_of : (test : ℕ → Bool) (P : ℕ → Type 0) (us : List ℕ) → ((u : ℕ) → P u → test u ≡ true) → (length us < 3 → (u : ℕ) → test u ≡ true → P u) → Gathers P [] us → UpToThree test us
three_of test P us passes all g = record {
  different = g.different tt;
  members = λ u h. elim (g.only u h) [ inl none ↦ absurd (cc) | inr p ↦ passes u p ];
  all = λ short u h. g.all short u (all short u h);
}

pub all_before : (bs : List ℕ) (marks : List Bool) (s : Span) (test : ℕ → Bool) (from u : ℕ) → AreBorders bs → AreUidsOf bs marks s test → NoneBetween (is_marked marks) from s.to → test u ≡ true → IsBefore bs test from u
all_before bs marks s test from u borders of none passes =
    let own = of_part bs marks s test u borders of passes in
    let high = (inside s own.0 own.2).1 in
    record {
      passes = passes;
      part = λ p other.
          let same = one_part bs (mirror u) p own.0 borders other own.1 in
          elim (cases_lt own.0 from) [
            | inl earlier ↦ omega (arith, same, earlier)
            | inr later ↦ absurd (both_ways _ (none own.0 later high) own.3)
          ];
    }
