-- Entries that differ in some slot lines, and entries of which less is known.
use Rattle.vic_margin.proofs.Words.{◌≡◌, ◌↔◌, ℕ, zero, suc, ◌+◌, ◌≤◌, ◌&&◌, true, false, Option, Some, List, [], ◌∷◌, length, nat_lt, if◌then◌else◌, inl, inr, refl, sym, ap, subst, ◌∙◌, arith, nat_tests, both_ways, cases_Bool, cases_lt, and_parts, slice_get, has, IsUid, Entry, Unknown, Silent, Heard, is_slot, answers_at, is_overlooked, denies_reply_of, some_denies_reply_of, margin_of}
use Rattle.std.proofs.Common.{option_map}
use Rattle.std.proofs.lemmas.Option.{slice_get-get_or, slice_get_past, slice_get_within}
use Rattle.std.proofs.Common.{get_or}
use Rattle.vic_log.proofs.Overlooked.{never_overlooked}
use Rattle.vic_log.proofs.Weaker.{weaker-iff, weaker_answers, weaker_given}
use Rattle.vic_log.specs.Overlooked.{IsNeverOverlooked}
use Rattle.vic_log.specs.Weaker.{AreWeaker, IsWeaker, is_weaker}
use Rattle.vic_verdict.proofs.Decide.{IsPossibleUid-iff}
use Rattle.vic_verdict.specs.Possible.{IsPossible, IsPossibleUid}
use Rattle.vic_verdict.specs.Verdict.{IsLeast}
use Rattle.vic_margin.specs.Differing.{DifferOnlyAt, IsPossibleWithout, IsSlotAt}
use Rattle.vic_margin.proofs.Counting.{count_listed, count_more, count_to, fails_each, has_passing, length_passing, margin_count, none_counted, passing}

-- ---- a UID that is overlooked nowhere

past_end : (es : List Entry) (i u : ℕ) → length es ≤ i → is_overlooked es i u ≡ false
past_end es i u past = ap (λ o. answers_at es i u && some_denies_reply_of o u) (slice_get_past es i past) ∙ grind (arith, nat_tests)

pub no_margin : (es : List Entry) (u : ℕ) → (margin_of es u ≡ 0) ↔ IsNeverOverlooked es u
no_margin es u = (
  (λ h i. elim (cases_lt i (length es)) [
    | inl within_ ↦ fails_each (λ j. is_overlooked es j u) (length es) i (sym (margin_count es (length es) u) ∙ h) within_
    | inr past ↦ past_end es i u past
  ]),
  (λ never. margin_count es (length es) u ∙ none_counted (λ j. is_overlooked es j u) (length es) never),
)

pub possible_never : (es : List Entry) (u : ℕ) → IsUid u → IsPossible es → IsPossibleUid es u ↔ IsNeverOverlooked es u
possible_never es u is possible = (
  (λ may. (never_overlooked es u is).1 ((IsPossibleUid-iff es u possible).0 may)),
  (λ never. (IsPossibleUid-iff es u possible).1 ((never_overlooked es u is).0 never)),
)

-- ---- the entries with unknown slots

abbrev forget : List ℕ → ℕ → List Entry → List Entry
forget places k [] = []
forget places k (e ∷ es) = (if has places k then Unknown else e) ∷ forget places (suc k) es

forget_long : (places : List ℕ) (k : ℕ) (es : List Entry) → length (forget places k es) ≡ length es
forget_long places k [] = refl
forget_long places k (e ∷ es) = ap suc (forget_long places (suc k) es)

forget_at : (places : List ℕ) (k i : ℕ) (es : List Entry) → slice_get (forget places k es) i ≡ (if has places (k + i) then option_map (λ (e : Entry). Unknown) (slice_get es i) else slice_get es i)
forget_at places k i [] = elim (cases_Bool (has places (k + i))) [
  | inl it ↦ rw it refl
  | inr isnt ↦ rw isnt refl
]
forget_at places k zero (e ∷ es) = let same : k + 0 ≡ k = omega arith in rw same (elim (cases_Bool (has places k)) [
  | inl it ↦ rw it refl
  | inr isnt ↦ rw isnt refl
])
forget_at places k (suc i) (e ∷ es) = let same : k + suc i ≡ suc k + i = omega arith in rw same (forget_at places (suc k) i es)

-- in the list of places
forgotten : (places : List ℕ) (es : List Entry) (i : ℕ) (e : Entry) → has places i ≡ true → slice_get es i ≡ Some e → slice_get (forget places 0 es) i ≡ Some Unknown
forgotten places es i e it k = let same : 0 + i ≡ i = omega arith in forget_at places 0 i es ∙ rw (same, it, k) refl

kept : (places : List ℕ) (es : List Entry) (i : ℕ) → has places i ≡ false → slice_get (forget places 0 es) i ≡ slice_get es i
kept places es i isnt = let same : 0 + i ≡ i = omega arith in forget_at places 0 i es ∙ rw (same, isnt) refl

unknown_weaker : (d e : Entry) → d ≡ Unknown → is_slot e ≡ true → IsWeaker d e
unknown_weaker d e is slot = rw is (inr (refl, slot, λ us f. tt))

-- where both have slot lines at the places, and are the same elsewhere, these are weaker than both
forget_weaker : (places : List ℕ) (es ds : List Entry) → DifferOnlyAt places es ds → AreWeaker (forget places 0 es) ds
forget_weaker places es ds h = record {
  as_many = forget_long places 0 es ∙ sym h.as_many;
  each = λ i d e k l. elim (cases_Bool (has places i)) [
    | inl it ↦
        let s = h.slots i it in
        let o = h.other_slots i it in
        let unknown = forgotten places es i s.0 it s.1 in
        let there = o.1 in
        let slot : e ≡ o.0 = cc in
        let none : d ≡ Unknown = cc in
        unknown_weaker d e none (rw slot o.2)
    | inr isnt ↦ let same = h.same i isnt in let as_es = kept places es i isnt in inl (cc)
  ];
}

differ_none : (places : List ℕ) (es ds : List Entry) → DifferOnlyAt places es ds → DifferOnlyAt places es es
differ_none places es ds h = record { as_many = refl; same = λ i isnt. refl; slots = h.slots; other_slots = h.slots }

differ_answers : (places : List ℕ) (es ds : List Entry) → DifferOnlyAt places es ds → (i u : ℕ) → answers_at ds i u ≡ answers_at es i u
differ_answers places es ds h i u =
    sym (weaker_answers (forget places 0 es) ds (forget_weaker places es ds h) i u)
    ∙ weaker_answers (forget places 0 es) es (forget_weaker places es es (differ_none places es ds h)) i u

differ_overlooked : (places : List ℕ) (es ds : List Entry) (i u : ℕ) → DifferOnlyAt places es ds → has places i ≡ false → is_overlooked ds i u ≡ is_overlooked es i u
differ_overlooked places es ds i u h isnt = rw (differ_answers places es ds h i u, h.same i isnt) refl

-- ---- a UID that is possible in the one is overlooked in no more places of the other

pub margin_few : (places : List ℕ) (es ds : List Entry) (u : ℕ) → DifferOnlyAt places es ds → IsUid u → IsPossibleUid ds u → margin_of es u ≤ length places
margin_few places es ds u h is may =
    let never = (possible_never ds u is (may.0, may.1, may.2)).0 may in
    let each : (i : ℕ) → is_overlooked es i u ≡ true → has places i ≡ true = λ i it. elim (cases_Bool (has places i)) [
      | inl there ↦ there
      | inr isnt ↦ absurd (both_ways (is_overlooked es i u) (sym (differ_overlooked places es ds i u h isnt) ∙ never i) it)
    ] in
    let count = margin_count es (length es) u in
    let more = count_more (λ i. is_overlooked es i u) (has places) (length es) each in
    let few = count_listed places (length es) in
    omega arith

-- ---- and with no fewer slots unknown it is possible

lacks_slot : (o : Option Entry) (u : ℕ) → some_denies_reply_of o u ≡ true → (e : Entry) × (o ≡ Some e) × (is_slot e ≡ true)
lacks_slot (Some Silent) u h = (Silent, refl, refl)
lacks_slot (Some (Heard r)) u h = (Heard r, refl, refl)
lacks_slot o u h = grind (arith, nat_tests)

overlooked_slot : (es : List Entry) (i u : ℕ) → is_overlooked es i u ≡ true → IsSlotAt es i
overlooked_slot es i u h = lacks_slot (slice_get es i) u (and_parts (answers_at es i u) _ h).1

abbrev misses : List Entry → ℕ → List ℕ
misses es u = passing (λ i. is_overlooked es i u) (length es)

missed : (es : List Entry) (i u : ℕ) → has (misses es u) i ≡ true → is_overlooked es i u ≡ true
missed es i u h = (and_parts (nat_lt i (length es)) _ (sym (has_passing (λ j. is_overlooked es j u) (length es) i) ∙ h)).1

not_missed : (es : List Entry) (i u : ℕ) → has (misses es u) i ≡ false → is_overlooked es i u ≡ false
not_missed es i u h = elim (cases_lt i (length es)) [
  | inl lt ↦ let e = has_passing (λ j. is_overlooked es j u) (length es) i in grind (arith, nat_tests, e, h, lt)
  | inr past ↦ past_end es i u past
]

misses_differ : (es : List Entry) (u : ℕ) → DifferOnlyAt (misses es u) es (forget (misses es u) 0 es)
misses_differ es u = record {
  as_many = forget_long (misses es u) 0 es;
  same = λ i isnt. kept (misses es u) es i isnt;
  slots = λ i it. overlooked_slot es i u (missed es i u it);
  other_slots = λ i it. let s = overlooked_slot es i u (missed es i u it) in (Unknown, forgotten (misses es u) es i s.0 it s.1, refl);
}

never_missed : (es : List Entry) (u : ℕ) → IsNeverOverlooked (forget (misses es u) 0 es) u
never_missed es u i = elim (cases_Bool (has (misses es u) i)) [
  | inl it ↦
      let s = overlooked_slot es i u (missed es i u it) in
      ap (λ o. answers_at (forget (misses es u) 0 es) i u && some_denies_reply_of o u) (forgotten (misses es u) es i s.0 it s.1) ∙ grind (arith, nat_tests)
  | inr isnt ↦ differ_overlooked (misses es u) es (forget (misses es u) 0 es) i u (misses_differ es u) isnt ∙ not_missed es i u isnt
]

pub margin_exact : (es : List Entry) (u : ℕ) → IsPossible es → IsUid u → IsLeast (IsPossibleWithout es u) (margin_of es u)
margin_exact es u possible is =
    let places = misses es u in
    let ds = forget places 0 es in
    let differ = misses_differ es u in
    let weaker = forget_weaker places es es (differ_none places es ds differ) in
    let possible_ds : IsPossible ds = (possible.0, possible.1, weaker_given ds es weaker possible.0 possible.2) in (
      record {
        places = places;
        few = length_passing (λ i. is_overlooked es i u) (length es) ∙ sym (margin_count es (length es) u);
        entries = ds;
        differ = differ;
        unknown = λ i it. let s = overlooked_slot es i u (missed es i u it) in forgotten places es i s.0 it s.1;
        possible = (possible_never ds u is possible_ds).1 (never_missed es u);
      },
      λ n h. let few = margin_few h.places es h.entries u h.differ is h.possible in let long = h.few in omega arith,
    )

-- ---- weaker entries

lacks_weaker : (d e : Entry) (u : ℕ) → is_weaker d e ≡ true → denies_reply_of d u ≡ true → denies_reply_of e u ≡ true
lacks_weaker d e u w h = grind (arith, nat_tests)

some_weaker : (d e : Entry) (u : ℕ) → IsWeaker d e → denies_reply_of d u ≡ true → denies_reply_of e u ≡ true
some_weaker d e u w h = elim w [
  | inl same ↦ subst (λ x. denies_reply_of x u ≡ true) same h
  | inr s ↦ lacks_weaker d e u ((weaker-iff d e s.0 s.1).1 s.2) h
]

overlooked_weaker : (ds es : List Entry) (i u : ℕ) → AreWeaker ds es → is_overlooked ds i u ≡ true → is_overlooked es i u ≡ true
overlooked_weaker ds es i u w h =
    let both = and_parts (answers_at ds i u) (some_denies_reply_of (slice_get ds i) u) h in
    let d = lacks_slot (slice_get ds i) u both.1 in
    let many = w.as_many in
    let below = slice_get_within ds i d.0 d.1 in
    let there = slice_get-get_or es i Silent (omega (arith, below, many)) in
    let lacks_d : denies_reply_of d.0 u ≡ true = rw d.1 at both.1 in
    let lacks_e = some_weaker d.0 (get_or es i Silent) u (w.each i d.0 (get_or es i Silent) d.1 there) lacks_d in
    let answers = sym (weaker_answers ds es w i u) ∙ both.0 in
    rw (answers, there) lacks_e

pub weaker_margin : (ds es : List Entry) (u : ℕ) → AreWeaker ds es → margin_of ds u ≤ margin_of es u
weaker_margin ds es u w =
    let a = margin_count ds (length ds) u in
    let b = margin_count es (length es) u in
    let more = count_more (λ i. is_overlooked ds i u) (λ i. is_overlooked es i u) (length es) (λ i h. overlooked_weaker ds es i u w h) in
    let same : count_to (λ i. is_overlooked ds i u) (length ds) ≡ count_to (λ i. is_overlooked ds i u) (length es) = ap (count_to (λ i. is_overlooked ds i u)) w.as_many in
    omega (arith, a, b, more, same)
