-- What the laws say of the margin of a log.
use Rattle.vic_margin.proofs.Words.{◌≡◌, ◌↔◌, ℕ, ◌<◌, ◌≤◌, true, false, List, length, inl, inr, refl, ap, subst, ◌∙◌, arith, cases_Bool, cases_lt, has, IsUid, Entry, margin_of}
use Rattle.vic_frame.specs.Masks.{BitMask}
use Rattle.vic_log.proofs.Sets.{IsUid-member}
use Rattle.vic_log.proofs.Weaker.{weaker_listed}
use Rattle.vic_log.specs.Order.{entries, listed}
use Rattle.vic_log.specs.Populations.{CouldHaveGiven, IsPopulation}
use Rattle.vic_log.specs.Weaker.{AreWeaker}
use Rattle.vic_log.specs.declared.entry.LogLine.{LogLine}
use Rattle.vic_tree.specs.OpenSet.{IsAtMost}
use Rattle.vic_verdict.proofs.Verdicts.{unsettled_iff}
use Rattle.vic_verdict.specs.Possible.{IsPossible, IsPossibleUid}
use Rattle.vic_verdict.specs.Verdict.{IsFirstMask, IsUnsettled, IsVerdict}
use Rattle.vic_verdict.specs.declared.judging.Verdict.TheVariants.{Complete, Unsettled}
use Rattle.vic_margin.specs.Differing.{DifferOnlyAt}
use Rattle.vic_margin.specs.Margins.{IsMargin, IsMarginOfSome, IsOfMargin, IsWeakest}
use Rattle.vic_margin.specs.declared.answer.Weakest.{Weakest}
use Rattle.vic_margin.proofs.Differing.{margin_few, no_margin, possible_never, weaker_margin}

-- an unlisted UID is overlooked at least as often as the margin
pub unlisted_often : (es : List Entry) (n u : ℕ) → IsMargin es n → IsUid u → has (listed es) u ≡ false → n ≤ margin_of es u
unlisted_often es n u m is isnt = m.1 (margin_of es u) (record { uid = u; is_uid = is; unlisted = isnt; margin = refl })

pub seldom_listed : (es : List Entry) (n u : ℕ) → IsMargin es n → IsUid u → margin_of es u < n → has (listed es) u ≡ true
seldom_listed es n u m is few = elim (cases_Bool (has (listed es) u)) [
  | inl it ↦ it
  | inr isnt ↦ let often = unlisted_often es n u m is isnt in absurd (omega (arith, few, often))
]

some_possible : (es : List Entry) (u : ℕ) → IsPossible es → IsPossibleUid es u → has (listed es) u ≡ false → IsMarginOfSome es (listed es) 0
some_possible es u possible may isnt =
    let is = IsUid-member may.0 u may.1 may.3 in
    record { uid = u; is_uid = is; unlisted = isnt; margin = (no_margin es u).1 ((possible_never es u is possible).0 may) }

pub margin_none : (es : List Entry) → IsPossible es → IsMargin es 0 ↔ ((u : ℕ) × IsPossibleUid es u × (has (listed es) u ≡ false))
margin_none es possible = (
  (λ m. let some = m.0 in (some.uid, (possible_never es some.uid some.is_uid possible).1 ((no_margin es some.uid).0 some.margin), some.unlisted)),
  (λ w. (some_possible es w.0 possible w.1 w.2, λ m s. omega arith)),
)

pub complete_margin : (lines : List LogLine) (count n : ℕ) → IsVerdict lines (Complete count) → IsMargin (entries lines) n → 1 ≤ n
complete_margin lines count n v m = elim (cases_lt 0 n) [
  | inl some ↦ omega (arith, some)
  | inr none ↦
      let zero_n : n ≡ 0 = omega (arith, none) in
      let w = (margin_none (entries lines) v.0).0 (subst (IsMargin (entries lines)) zero_n m) in
      let mask = (unsettled_iff (entries lines)).1 w in
      absurd (v.3 mask.0 mask.1)
]

-- ---- the weakest mask of an unsettled log

pub unsettled_margin : (lines : List LogLine) (m : BitMask) (w : Weakest) → IsVerdict lines (Unsettled m) → IsWeakest (entries lines) w → w.margin ≡ 0
unsettled_margin lines m w v h =
    let some = (unsettled_iff (entries lines)).0 (m, v.3.0) in
    let le = h.margin.1 0 (some_possible (entries lines) some.0 v.0 some.1 some.2) in
    omega (arith, le)

pub unsettled_of : (es : List Entry) (k : BitMask) → IsPossible es → IsOfMargin es (listed es) 0 k → IsUnsettled es k
unsettled_of es k possible h = (h.short, h.fits, λ u is lies. ((possible_never es u is possible).1 ((no_margin es u).0 (h.margin u is lies)), h.unlisted u is lies))

pub of_unsettled : (es : List Entry) (k : BitMask) → IsPossible es → IsUnsettled es k → IsOfMargin es (listed es) 0 k
of_unsettled es k possible h = record {
  short = h.0;
  fits = h.1;
  unlisted = λ u is lies. (h.2 u is lies).1;
  margin = λ u is lies. (no_margin es u).1 ((possible_never es u is possible).0 (h.2 u is lies).0);
}

pub unsettled_weakest : (lines : List LogLine) (m : BitMask) → IsVerdict lines (Unsettled m) → IsWeakest (entries lines) (record { margin = 0; mask = m })
unsettled_weakest lines m v =
    let es = entries lines in
    record {
      margin = (margin_none es v.0).1 ((unsettled_iff es).0 (m, v.3.0));
      mask = (of_unsettled es m v.0 v.3.0, λ k h. v.3.1 k (unsettled_of es k v.0 h));
    }

same_mask : (m k : BitMask) → IsAtMost m k → IsAtMost k m → m ≡ k
same_mask m k a b = grind (arith, a, b)

pub unsettled_mask : (lines : List LogLine) (m : BitMask) (w : Weakest) → IsVerdict lines (Unsettled m) → IsWeakest (entries lines) w → w.mask ≡ m
unsettled_mask lines m w v h =
    let es = entries lines in
    let first : IsFirstMask (IsOfMargin es (listed es) 0) w.mask = subst (λ n. IsFirstMask (IsOfMargin es (listed es) n) w.mask) (unsettled_margin lines m w v h) h.mask in
    same_mask w.mask m (first.1 m (of_unsettled es m v.0 v.3.0)) (v.3.1 w.mask (unsettled_of es w.mask v.0 first.0))

-- ---- wrong lines

pub few_wrong : (es ds : List Entry) (n : ℕ) (places p : List ℕ) → IsMargin es n → DifferOnlyAt places es ds → length places < n → IsPopulation p → CouldHaveGiven p ds → (u : ℕ) → has p u ≡ true → has (listed es) u ≡ true
few_wrong es ds n places p m differ few pop given u there =
    let is = IsUid-member p u pop there in
    let most = margin_few places es ds u differ is (p, pop, given, there) in
    seldom_listed es n u m is (omega (arith, most, few))

pub weaker_least : (ds es : List Entry) (m n : ℕ) → AreWeaker ds es → IsMargin ds m → IsMargin es n → m ≤ n
weaker_least ds es m n w a b =
    let some = b.0 in
    let isnt : has (listed ds) some.uid ≡ false = ap (λ us. has us some.uid) (weaker_listed ds es w) ∙ some.unlisted in
    let often = unlisted_often ds m some.uid a some.is_uid isnt in
    let less = weaker_margin ds es some.uid w in
    let e = some.margin in
    omega (arith, often, less, e)
