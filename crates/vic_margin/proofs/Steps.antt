-- What each kind of entry makes of what a tally knows.
use Rattle.vic_margin.proofs.Words.{◌≡◌, ◌≢◌, ◌==◌, ◌||◌, ◌&&◌, not, ℕ, suc, ◌+◌, ◌<◌, ◌≤◌, Bool, true, false, Some, List, length, slice_get, slice_index, add-one, ap, sym, refl, subst, ◌∙◌, inl, inr, arith, nat_tests, cases_Bool, cases_eq, false_from_ne_true, eqb-true, nat_lt, IsUid, mirror, Entry, Reply, Captured, Collision, FieldCycle, Garbled, Heard, Listed, Sent, Silent, Unknown, StayQuiet, answers_at, is_quiet, silences, wakes, lies_in_some, mask_at, AreBorders, IsPartOf, AreCut, names, is_marked, Span, is_overlooked, denies_reply_of, some_denies_reply_of, margin_before, margin_of, one_if, Tally, AreMargins, IsCounted, IsSpanAt, IsTallyAt, IsTallyOf, IsTurned, within}
use Rattle.std.proofs.Common.{get_or, zero}
use Rattle.std.proofs.lemmas.Option.{slice_get-get_or}
use Rattle.vic_walk.proofs.PartLaws.{one_part}
use Rattle.vic_walk.specs.Listing.{IsListFrom}

eqb-same : (n : ℕ) → (n == n) ≡ true
eqb-same n = grind (arith, nat_tests)

-- there is a number for each part
there : (bs : List ℕ) (es : List Entry) (i k p : ℕ) (t : Tally) → IsTallyAt bs es i t → IsPartOf bs k p → p < length t.rest.items
there bs es i k p t h at = omega (arith, h.room, at.within)

-- ---- what an entry says of a UID

overlooked_is : (es : List Entry) (i : ℕ) (e : Entry) (u : ℕ) → slice_get es i ≡ Some e → is_overlooked es i u ≡ ((lies_in_some (mask_at es i) u && not (is_quiet es i u)) && denies_reply_of e u)
overlooked_is es i e u k = ap (λ o. answers_at es i u && some_denies_reply_of o u) k

quiet_is : (es : List Entry) (i : ℕ) (e : Entry) (u : ℕ) → slice_get es i ≡ Some e → is_quiet es (suc i) u ≡ (silences (Some e) u || (not (wakes (Some e)) && is_quiet es i u))
quiet_is es i e u k = ap (λ o. silences o u || (not (wakes o) && is_quiet es i u)) k

quiet_same : (es : List Entry) (i : ℕ) (e : Entry) (u : ℕ) → slice_get es i ≡ Some e → silences (Some e) u ≡ false → wakes (Some e) ≡ false → is_quiet es (suc i) u ≡ is_quiet es i u
quiet_same es i e u k silent awake = rw (quiet_is es i e u k, silent, awake) refl

-- the entry overlooks no UID
not_overlooked : (es : List Entry) (i : ℕ) (e : Entry) (u : ℕ) → slice_get es i ≡ Some e → denies_reply_of e u ≡ false → margin_before es (suc i) u ≡ margin_before es i u
not_overlooked es i e u k none =
    let it = overlooked_is es i e u k in
    let isnt : is_overlooked es i u ≡ false = grind (arith, nat_tests) in
    ap (λ b. margin_before es i u + one_if b) isnt ∙ grind (arith, nat_tests)

-- ---- a slot is counted

counted_of : (es : List Entry) (i u p : ℕ) (e : Entry) (s : Span) (back : ℕ → Bool) (old new : Tally) → slice_get es i ≡ Some e → silences (Some e) u ≡ false → wakes (Some e) ≡ false → p < old.counts.leaves → IsCounted s back old new
    → (is_quiet es i u ≡ false → one_if (within s.from s.to p) ≡ one_if (is_overlooked es i u) + one_if (back p))
    → (is_quiet es i u ≡ true → one_if (is_overlooked es i u) + one_if (back p) ≡ 0)
    → IsTallyOf es i u p old → IsTallyOf es (suc i) u p new
counted_of es i u p e s back old new k silent awake room h counted left t =
    let same = quiet_same es i e u k silent awake in
    let count = h.counts p room in
    let rest = h.rest p in
    record {
      quiet = rw (h.quiet, same) t.quiet;
      ready = λ it. let q : is_quiet es i u ≡ false = sym same ∙ it in let a = counted q in let b = t.ready q in omega arith;
      kept = λ it. let q : is_quiet es i u ≡ true = sym same ∙ it in let a = left q in let b = t.kept q in omega arith;
    }

silent_ready : (es : List Entry) (i u p : ℕ) (s : Span) → slice_get es i ≡ Some Silent → lies_in_some (mask_at es i) u ≡ within s.from s.to p → is_quiet es i u ≡ false → one_if (within s.from s.to p) ≡ one_if (is_overlooked es i u) + one_if false
silent_ready es i u p s k inside q = rw (overlooked_is es i Silent u k, q, inside) (grind (arith, nat_tests))

quiet_none : (es : List Entry) (i u : ℕ) → is_quiet es i u ≡ true → one_if (is_overlooked es i u) ≡ 0
quiet_none es i u q = rw q (grind (arith, nat_tests))

pub tally_silent : (bs : List ℕ) (es : List Entry) (i : ℕ) (s : Span) (old new : Tally) → slice_get es i ≡ Some Silent → IsSpanAt bs es i s → IsCounted s (λ p. false) old new → IsTallyAt bs es i old → IsTallyAt bs es (i + 1) new
tally_silent bs es i s old new k span h t = rw add-one (record {
  room = h.size ∙ t.room;
  few = let r = h.raised in let f = t.few in omega arith;
  known = λ u p is at. counted_of es i u p Silent s (λ p. false) old new k refl refl (omega (arith, old.leaves, there bs es i _ p old t at)) h
      (silent_ready es i u p s k (span u p is at)) (λ q. let no = quiet_none es i u q in omega arith) (t.known u p is at);
})

-- ---- a reply

-- a UID in the part of the one that was heard is that one
same_uid : (bs : List ℕ) (es : List Entry) (i u v p : ℕ) → AreCut bs es → names (slice_get es i) v ≡ true → IsUid u → IsUid v → IsPartOf bs (mirror u) p → IsPartOf bs (mirror v) p → v ≡ u
same_uid bs es i u v p cut name is_u is_v at_u at_v = cut.named i v u name (record { first = is_v; second = is_u; part = (p, at_v, at_u) })

-- in another part there is another
other_uid : (bs : List ℕ) (u v p own : ℕ) → AreBorders bs → IsPartOf bs (mirror u) p → IsPartOf bs (mirror v) own → p ≢ own → (v == u) ≡ false
other_uid bs u v p own borders at_u at_v other = false_from_ne_true _ (λ it. let same : v ≡ u = eqb-true v u it in other (one_part bs (mirror u) p own borders at_u (subst (λ w. IsPartOf bs (mirror w) own) same at_v)))

abbrev heard_back : Span → ℕ → Tally → ℕ → Bool
heard_back s own old p = p == own && (within s.from s.to own && not (is_marked old.quiet own))

heard_ready : (bs : List ℕ) (es : List Entry) (i u p own : ℕ) (r : Reply) (s : Span) (old : Tally) → slice_get es i ≡ Some (Heard r) → AreBorders bs → AreCut bs es → IsUid r.uid → IsPartOf bs (mirror r.uid) own → IsUid u → IsPartOf bs (mirror u) p
    → lies_in_some (mask_at es i) u ≡ within s.from s.to p → is_marked old.quiet p ≡ is_quiet es i u → is_quiet es i u ≡ false
    → one_if (within s.from s.to p) ≡ one_if (is_overlooked es i u) + one_if (heard_back s own old p)
heard_ready bs es i u p own r s old k borders cut is own_at is_u at inside marked q = elim (cases_eq p own) [
  | inl here ↦
      let name : names (slice_get es i) r.uid ≡ true = rw k (eqb-same r.uid) in
      let same : r.uid ≡ u = same_uid bs es i u r.uid p cut name is_u is at (rw here own_at) in
      let it : (r.uid == u) ≡ true = rw same (eqb-same u) in
      let unmarked : is_marked old.quiet own ≡ false = sym (ap (is_marked old.quiet) here) ∙ (marked ∙ q) in
      let own_is : (p == own) ≡ true = rw here (eqb-same own) in
      rw (overlooked_is es i (Heard r) u k, it, unmarked, own_is, here) (grind (arith, nat_tests))
  | inr other ↦
      let isnt = other_uid bs u r.uid p own borders at own_at other in
      let own_isnt : (p == own) ≡ false = grind (arith, nat_tests) in
      rw (overlooked_is es i (Heard r) u k, isnt, own_isnt, q, inside) (grind (arith, nat_tests))
]

heard_quiet : (es : List Entry) (i u p own : ℕ) (s : Span) (old : Tally) → is_marked old.quiet p ≡ is_quiet es i u → is_quiet es i u ≡ true → one_if (is_overlooked es i u) + one_if (heard_back s own old p) ≡ 0
heard_quiet es i u p own s old marked q = elim (cases_eq p own) [
  | inl here ↦
      let is_m : is_marked old.quiet own ≡ true = sym (ap (is_marked old.quiet) here) ∙ (marked ∙ q) in
      rw (quiet_none es i u q, is_m) (grind (arith, nat_tests))
  | inr other ↦
      let own_isnt : (p == own) ≡ false = grind (arith, nat_tests) in
      rw (quiet_none es i u q, own_isnt) refl
]

pub tally_heard : (bs : List ℕ) (es : List Entry) (i own : ℕ) (r : Reply) (s : Span) (old new : Tally) → slice_get es i ≡ Some (Heard r) → AreBorders bs → AreCut bs es → IsUid r.uid → IsPartOf bs (mirror r.uid) own → IsSpanAt bs es i s → IsCounted s (heard_back s own old) old new → IsTallyAt bs es i old → IsTallyAt bs es (i + 1) new
tally_heard bs es i own r s old new k borders cut is own_at span h t = rw add-one (record {
  room = h.size ∙ t.room;
  few = let r = h.raised in let f = t.few in omega arith;
  known = λ u p is_u at. counted_of es i u p (Heard r) s (heard_back s own old) old new k refl refl (omega (arith, old.leaves, there bs es i _ p old t at)) h
      (heard_ready bs es i u p own r s old k borders cut is own_at is_u at (span u p is_u at) (t.known u p is_u at).quiet)
      (heard_quiet es i u p own s old (t.known u p is_u at).quiet) (t.known u p is_u at);
})

-- ---- nothing

pub record DoesNothing (e : Entry) : Type 0 where
  pub silences : (u : ℕ) → IsUid u → silences (Some e) u ≡ false
  pub wakes : wakes (Some e) ≡ false
  pub lacks : (u : ℕ) → denies_reply_of e u ≡ false

pub tally_idle : (bs : List ℕ) (es : List Entry) (i : ℕ) (e : Entry) (t : Tally) → slice_get es i ≡ Some e → DoesNothing e → IsTallyAt bs es i t → IsTallyAt bs es (i + 1) t
tally_idle bs es i e t k none h = rw add-one (record {
  room = h.room;
  few = let f = h.few in omega arith;
  known = λ u p is at.
      let before = h.known u p is at in
      let same = quiet_same es i e u k (none.silences u is) none.wakes in
      let margin = not_overlooked es i e u k (none.lacks u) in
      record { quiet = before.quiet ∙ sym same; ready = λ q. before.ready (sym same ∙ q) ∙ ap (λ m. m + slice_index t.rest.items p) (sym margin); kept = λ q. before.kept (sym same ∙ q) ∙ sym margin };
})

-- no request, no field cycle, and no slot that lacks a reply
abbrev pub is_idle : Entry → Bool
is_idle Collision = true
is_idle Garbled = true
is_idle (Captured r) = true
is_idle Unknown = true
is_idle (Listed v) = true
is_idle e = false

pub idle_does_nothing : (e : Entry) → is_idle e ≡ true → DoesNothing e
idle_does_nothing e idle = record { silences = λ u is. grind (arith, nat_tests, idle); wakes = grind (arith, nat_tests, idle); lacks = λ u. grind (arith, nat_tests, idle) }

-- ---- Stay Quiet

silenced_part : (es : List Entry) (i link u p : ℕ) (which : ℕ → Bool) (old new : Tally) → slice_get es i ≡ Some (Sent (StayQuiet link u)) → IsTurned which old new → p < length old.rest.items → (is_marked old.quiet p ≡ false → which p ≡ true) → (is_marked old.quiet p ≡ true → which p ≡ false) → is_marked new.quiet p ≡ true → IsTallyOf es i u p old → IsTallyOf es (suc i) u p new
silenced_part es i link u p which old new k h lt turned kept marked t =
    let e = Sent (StayQuiet link u) in
    let now : is_quiet es (suc i) u ≡ true = rw (quiet_is es i e u k, eqb-same u) refl in
    let margin = not_overlooked es i e u k refl in
    record {
      quiet = marked ∙ sym now;
      ready = λ q. absurd (cc);
      kept = λ q. elim (cases_Bool (is_quiet es i u)) [
        | inl was ↦ h.same p (kept (t.quiet ∙ was)) ∙ (t.kept was ∙ sym margin)
        | inr was ↦ let a = h.turned p lt (turned (t.quiet ∙ was)) in let b = t.ready was in omega arith
      ];
    }

-- another UID
other_part : (es : List Entry) (i u p : ℕ) (e : Entry) (which : ℕ → Bool) (old new : Tally) → slice_get es i ≡ Some e → silences (Some e) u ≡ false → wakes (Some e) ≡ false → denies_reply_of e u ≡ false → IsTurned which old new → which p ≡ false → is_marked new.quiet p ≡ is_marked old.quiet p → IsTallyOf es i u p old → IsTallyOf es (suc i) u p new
other_part es i u p e which old new k silent awake lacks h isnt marked t =
    let same = quiet_same es i e u k silent awake in
    let margin = not_overlooked es i e u k lacks in
    let rest = h.same p isnt in
    record {
      quiet = marked ∙ (t.quiet ∙ sym same);
      ready = λ q. let b = t.ready (sym same ∙ q) in rw h.counts (omega arith);
      kept = λ q. let b = t.kept (sym same ∙ q) in omega arith;
    }

abbrev silenced_which : ℕ → Tally → ℕ → Bool
silenced_which part old p = p == part && not (is_marked old.quiet part)

pub tally_silenced : (bs : List ℕ) (es : List Entry) (i link uid part : ℕ) (old new : Tally) → slice_get es i ≡ Some (Sent (StayQuiet link uid)) → AreBorders bs → AreCut bs es → IsUid uid → IsPartOf bs (mirror uid) part
    → IsTurned (silenced_which part old) old new → ((p : ℕ) → is_marked new.quiet p ≡ (p == part || is_marked old.quiet p)) → IsTallyAt bs es i old → IsTallyAt bs es (i + 1) new
tally_silenced bs es i link uid part old new k borders cut is at h quiet t = rw add-one (record {
  room = h.size ∙ t.room;
  few = rw h.counts (let f = t.few in omega arith);
  known = λ u p is_u at_u. elim (cases_eq p part) [
    | inl here ↦
        let name : names (slice_get es i) uid ≡ true = rw (k, eqb-same uid) refl in
        let same : uid ≡ u = same_uid bs es i u uid p cut name is_u is at_u (rw here at) in
        let own_is : (p == part) ≡ true = rw here (eqb-same part) in
        silenced_part es i link u p (silenced_which part old) old new (rw same at k) h (there bs es i _ p old t at_u)
        (λ was. let m = ap (is_marked old.quiet) here in rw own_is (let w : is_marked old.quiet part ≡ false = sym m ∙ was in rw w refl))
        (λ was. let m = ap (is_marked old.quiet) here in rw own_is (let w : is_marked old.quiet part ≡ true = sym m ∙ was in rw w refl))
        (rw (quiet p, own_is) refl) (t.known u p is_u at_u)
    | inr other ↦
        let own_isnt : (p == part) ≡ false = grind (arith, nat_tests) in
        other_part es i u p (Sent (StayQuiet link uid)) (silenced_which part old) old new k (other_uid bs u uid p part borders at_u at other) refl refl h (rw own_isnt refl) (rw (quiet p, own_isnt) refl) (t.known u p is_u at_u)
  ];
})

-- ---- a field cycle

woken_of : (es : List Entry) (i u p : ℕ) (old new : Tally) → slice_get es i ≡ Some FieldCycle → IsTurned (is_marked old.quiet) old new → is_marked new.quiet p ≡ false → p < length old.rest.items → IsTallyOf es i u p old → IsTallyOf es (suc i) u p new
woken_of es i u p old new k h unmarked lt t =
    let now : is_quiet es (suc i) u ≡ false = rw (quiet_is es i FieldCycle u k) refl in
    let margin = not_overlooked es i FieldCycle u k refl in
    record {
      quiet = unmarked ∙ sym now;
      ready = λ q. rw h.counts (elim (cases_Bool (is_quiet es i u)) [
        | inl was ↦ let a = h.turned p lt (t.quiet ∙ was) in let b = t.kept was in omega arith
        | inr was ↦ let a = h.same p (t.quiet ∙ was) in let b = t.ready was in omega arith
      ]);
      kept = λ q. absurd (cc);
    }

pub tally_woken : (bs : List ℕ) (es : List Entry) (i : ℕ) (old new : Tally) → slice_get es i ≡ Some FieldCycle → IsTurned (is_marked old.quiet) old new → ((p : ℕ) → is_marked new.quiet p ≡ false) → IsTallyAt bs es i old → IsTallyAt bs es (i + 1) new
tally_woken bs es i old new k h quiet t = rw add-one (record {
  room = h.size ∙ t.room;
  few = rw h.counts (let f = t.few in omega arith);
  known = λ u p is at. woken_of es i u p old new k h (quiet p) (there bs es i _ p old t at) (t.known u p is at);
})

-- ---- the list

-- what the list begins at is as at its end
pub tally_past : (bs : List ℕ) (es : List Entry) (n d : ℕ) (t : Tally) → IsListFrom es n → n + d ≤ length es → IsTallyAt bs es n t → IsTallyAt bs es (n + d) t
tally_past bs es n zero t list within h = let same : n + 0 ≡ n = omega arith in rw same h
tally_past bs es n (suc d) t list within h =
    let here = slice_get-get_or es (n + d) Silent (omega (arith, within)) in
    let l = list (n + d) (get_or es (n + d) Silent) (omega arith) here in
    let next : n + suc d ≡ n + d + 1 = omega arith in
    rw next (tally_idle bs es (n + d) _ t here (rw l.1 (idle_does_nothing (Listed l.0) refl)) (tally_past bs es n d t list (omega (arith, within)) h))

-- ---- after the last entry

margin_at_end : (es : List Entry) (u p n : ℕ) (old new : Tally) → IsTurned (λ q. nat_lt q n && not (is_marked old.quiet q)) old new → length old.rest.items ≤ n → p < length old.rest.items → IsTallyOf es (length es) u p old → slice_index new.rest.items p ≡ margin_of es u
margin_at_end es u p n old new h all lt t = elim (cases_Bool (is_quiet es (length es) u)) [
  | inl was ↦
      let m : is_marked old.quiet p ≡ true = t.quiet ∙ was in
      h.same p (grind (arith, nat_tests)) ∙ t.kept was
  | inr was ↦
      let m : is_marked old.quiet p ≡ false = t.quiet ∙ was in
      let below : nat_lt p n ≡ true = grind (arith, nat_tests) in
      let a = h.turned p lt (rw (below, m) refl) in
      let b = t.ready was in
      omega arith
]

pub margins_at_end : (bs : List ℕ) (es : List Entry) (n : ℕ) (old new : Tally) → IsTurned (λ q. nat_lt q n && not (is_marked old.quiet q)) old new → length old.rest.items ≤ n → IsTallyAt bs es (length es) old → AreMargins bs es new.rest.items
margins_at_end bs es n old new h all t = record {
  room = h.size ∙ t.room;
  margin = λ u p is at. margin_at_end es u p n old new h all (there bs es _ _ p old t at) (t.known u p is at);
}
