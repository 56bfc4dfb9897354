-- What each kind of entry makes of what a walk knows.
use Rattle.vic_walk.proofs.Words.{◌≡◌, ◌==◌, AreStatesAt, Sent, FieldCycle, Silent, silences, wakes, names, AreCut, has, arith, nat_tests, or_left, or_right, cases_lt, replicate, length-replicate, get_or-replicate, is_uid_from, Captured, Collision, Garbled, Listed, Unknown, StayQuiet, Request, and-false, eqb-true, eq_swapped, uid_of, is_uid, mirror_of_uid, mirror_below, IsUid-from, ltb-true, false_from_ne_true, ◌↔◌, ℕ, zero, suc, ◌+◌, ◌<◌, ◌≤◌, Bool, true, false, ◌&&◌, ◌||◌, not, Option, Some, List, sym, refl, subst, ◌∙◌, inl, inr, add-one, if◌then◌else◌, slice_get, slice_index, length, cases_Bool, and_parts, and_from, or_cases, false≢true, and-true, Entry, Reply, Heard, IsUid, mirror, answers_at, is_quiet, is_open, reading_of, slots_before, AreBorders, AreBorneOut, IsEnd, IsPartOf, IsWalkAt, hears, is_marked, part_count, was_heard}
use Rattle.vic_walk.specs.declared.part_states.PartStates.{PartStates}
use Rattle.vic_walk.specs.declared.walk_state.WalkState.{WalkState}
use Rattle.vic_walk.specs.declared.steps.Span.{Span}
use Rattle.vic_walk.specs.Steps.{IsSpanAt, is_within}
use Rattle.vic_walk.specs.inner.Ruled.{LosesHeard, IsRuledOut, is_other}
use Rattle.vic_walk.proofs.Entries.{entry_allows, eqb-same, open_step, quiet_step}
use Rattle.vic_walk.proofs.PartLaws.{key_of_part, one_part, part_of_key}

-- ---- before the first entry

pub walk_starts : (bs : List ℕ) (es : List Entry) (n : ℕ) (w : WalkState) → part_count bs ≡ n → w.open.ready ≡ replicate n true → ((p : ℕ) → has w.open.quiet.items p ≡ false) → w.ends.items ≡ replicate n 0 → w.heard ≡ replicate n false → IsWalkAt bs es 0 w
walk_starts bs es n w count ready quiet ends heard = record {
  states = record {
    room = rw ready (length-replicate n true ∙ sym count);
    ready = λ u p is at. rw (ready, first u is) (get_or-replicate n p true false (below at.within));
    quiet = λ u p is at. rw (quiet p, first u is) refl;
  };
  ends = record {
    room = rw ends (length-replicate n 0 ∙ sym count);
    each = λ u p is at. rw (ends, get_or-replicate {A = ℕ} n p 0 0 (below at.within)) (first u is);
  };
  heard = λ u p is at. rw heard (get_or-replicate n p false false (below at.within));
} where
  below : {p : ℕ} → p < part_count bs → p < n
  below within = omega (arith, within, count)

  first : (u : ℕ) → IsUid u → is_open (slots_before es 0) u ≡ true
  first u is = rw (is_uid_from u is) refl

-- ---- the end of a UID

-- while the UID stays as it is, so does its end
pub end_kept : (es : List Entry) (i u n : ℕ) → is_open (slots_before es (suc i)) u ≡ is_open (slots_before es i) u → IsEnd es i u n → IsEnd es (suc i) u n
end_kept es i u zero same h = same ∙ h
end_kept es i u (suc j) same h = (omega (arith, h.0), h.1, h.2)

pub end_here : (es : List Entry) (i u : ℕ) → is_open (slots_before es i) u ≡ true → is_open (slots_before es (suc i)) u ≡ false → IsEnd es (suc i) u (i + 1)
end_here es i u before after = rw add-one (omega arith, before, after)

-- ---- who is Ready

quiet_same : (es : List Entry) (i : ℕ) (e : Entry) (u : ℕ) → slice_get es i ≡ Some e → silences (Some e) u ≡ false → wakes (Some e) ≡ false → is_quiet es (suc i) u ≡ is_quiet es i u
quiet_same es i e u k silent awake = rw (quiet_step es i e u k, silent, awake) refl

-- an entry that silences no UID, and wakes none
pub ready_still : (bs : List ℕ) (es : List Entry) (set : ℕ → Bool) (i : ℕ) (e : Entry) (w : PartStates) → slice_get es i ≡ Some e → ((u : ℕ) → IsUid u → silences (Some e) u ≡ false) → wakes (Some e) ≡ false → AreStatesAt bs es set i w → AreStatesAt bs es set (i + 1) w
ready_still bs es set i e w k silent awake h = rw add-one (record {
  room = h.room;
  ready = λ u p is at. rw (quiet_same es i e u k (silent u is) awake) (h.ready u p is at);
  quiet = λ u p is at. rw (quiet_same es i e u k (silent u is) awake) (h.quiet u p is at);
})

-- two tests that hold for one and the same are equal
same_tests : (u v p q : ℕ) → (u ≡ v → p ≡ q) → (p ≡ q → u ≡ v) → (u == v) ≡ (p == q)
same_tests u v p q f g = grind (arith, nat_tests)

-- a UID is that of an entry exactly where it lies in its part
pub own_part : (bs : List ℕ) (es : List Entry) (i u v p q : ℕ) → AreBorders bs → AreCut bs es → names (slice_get es i) v ≡ true → IsUid u → IsUid v → IsPartOf bs (mirror u) p → IsPartOf bs (mirror v) q → (v == u) ≡ (p == q)
own_part bs es i u v p q borders cut named is is_too at at_too = same_tests v u p q
    (λ same. one_part bs (mirror u) p q borders at (subst (λ w. IsPartOf bs (mirror w) q) same at_too))
    (λ same. cut.named i v u named (record { first = is_too; second = is; part = (q, at_too, subst (λ x. IsPartOf bs (mirror u) x) same at) }))

silenced_marks : (o q e : Bool) → (not e && (o && not q)) ≡ (o && not (e || q))
silenced_marks true true true = refl
silenced_marks true true false = refl
silenced_marks true false true = refl
silenced_marks true false false = refl
silenced_marks false true true = refl
silenced_marks false true false = refl
silenced_marks false false true = refl
silenced_marks false false false = refl

silenced_list : (o q e : Bool) → ((o && q) || (e && (o && not q))) ≡ (o && (e || q))
silenced_list true true true = refl
silenced_list true true false = refl
silenced_list true false true = refl
silenced_list true false false = refl
silenced_list false true true = refl
silenced_list false true false = refl
silenced_list false false true = refl
silenced_list false false false = refl

pub ready_silenced : (bs : List ℕ) (es : List Entry) (set : ℕ → Bool) (i link v q : ℕ) (old new : PartStates) → slice_get es i ≡ Some (Sent (StayQuiet link v)) → IsUid v → IsPartOf bs (mirror v) q → AreBorders bs → AreCut bs es → ((p : ℕ) → is_marked new.ready p ≡ (not (p == q) && is_marked old.ready p)) → length new.ready ≡ length old.ready → ((p : ℕ) → has new.quiet.items p ≡ (has old.quiet.items p || (p == q && is_marked old.ready p))) → AreStatesAt bs es set i old → AreStatesAt bs es set (i + 1) new
ready_silenced bs es set i link v q old new k is_too at_too borders cut ready room quiet h =
    let named : names (slice_get es i) v ≡ true = rw k (or_left _ _ (eqb-same v)) in
    let later : (u p : ℕ) → IsUid u → IsPartOf bs (mirror u) p → is_quiet es (suc i) u ≡ (p == q || is_quiet es i u) =
    λ u p is at. quiet_step es i (Sent (StayQuiet link v)) u k ∙ rw (own_part bs es i u v p q borders cut named is is_too at at_too) refl in
    rw add-one (record {
      room = room ∙ h.room;
      ready = λ u p is at. rw (later u p is at, ready p, h.ready u p is at) (silenced_marks (set u) (is_quiet es i u) (p == q));
      quiet = λ u p is at. rw (later u p is at, quiet p, h.quiet u p is at, h.ready u p is at) (silenced_list (set u) (is_quiet es i u) (p == q));
    })

woken_marks : (o q : Bool) → ((o && not q) || (o && q)) ≡ o
woken_marks true true = refl
woken_marks true false = refl
woken_marks false q = refl

-- all that are marked or listed are marked, and none is listed: so all are Ready
pub ready_woken : (bs : List ℕ) (es : List Entry) (set : ℕ → Bool) (i j : ℕ) (old new : PartStates) → ((u : ℕ) → is_quiet es j u ≡ false) → ((p : ℕ) → is_marked new.ready p ≡ (is_marked old.ready p || has old.quiet.items p)) → length new.ready ≡ length old.ready → ((p : ℕ) → has new.quiet.items p ≡ false) → AreStatesAt bs es set i old → AreStatesAt bs es set j new
ready_woken bs es set i j old new awake ready room quiet h = record {
  room = room ∙ h.room;
  ready = λ u p is at. rw (awake u, ready p, h.ready u p is at, h.quiet u p is at) (woken_marks (set u) (is_quiet es i u) ∙ sym (and-true (set u)));
  quiet = λ u p is at. rw (awake u, quiet p) (sym (and-false (set u)));
}

pub cycle_wakes : (es : List Entry) (i u : ℕ) → slice_get es i ≡ Some FieldCycle → is_quiet es (i + 1) u ≡ false
cycle_wakes es i u k = rw add-one (quiet_step es i FieldCycle u k)

-- ---- entries that read no slot

-- the entry rules no UID out, and hears none
abbrev pub ReadsNone : Entry → Type 0
ReadsNone e = (a : Bool) (u : ℕ) → (entry_allows (reading_of e) a u ≡ true) × (hears (Some e) u ≡ false)

open_none : (es : List Entry) (i : ℕ) (e : Entry) (u : ℕ) → slice_get es i ≡ Some e → ReadsNone e → is_open (slots_before es (suc i)) u ≡ is_open (slots_before es i) u
open_none es i e u k none = rw (open_step es i e u k, (none (answers_at es i u) u).0) (and-true _)

heard_none : (es : List Entry) (i : ℕ) (e : Entry) (u : ℕ) → slice_get es i ≡ Some e → ReadsNone e → hears (slice_get es i) u ≡ false
heard_none es i e u k none = rw k (none true u).1

-- then what is known changes only by who is Ready
pub walk_unread : (bs : List ℕ) (es : List Entry) (i : ℕ) (e : Entry) (old new : WalkState) → slice_get es i ≡ Some e → ReadsNone e → AreStatesAt bs es (is_open (slots_before es i)) (i + 1) new.open → new.heard ≡ old.heard → new.ends.items ≡ old.ends.items → IsWalkAt bs es i old → IsWalkAt bs es (i + 1) new
walk_unread bs es i e old new k none ready heard ends h =
    let later : AreStatesAt bs es (is_open (slots_before es i)) (suc i) new.open = rw (← add-one) ready in
    let same = λ (u : ℕ). open_none es i e u k none in
    rw add-one (record {
      states = record {
        room = later.room;
        ready = λ u p is at. rw (same u) (later.ready u p is at);
        quiet = λ u p is at. rw (same u) (later.quiet u p is at);
      };
      ends = record {
        room = rw ends h.ends.room;
        each = λ u p is at. rw ends (end_kept es i u _ (same u) (h.ends.each u p is at));
      };
      heard = λ u p is at. rw (heard, heard_none es i e u k none) (h.heard u p is at);
    })

-- an entry that does nothing to UIDs
pub record DoesNothing (e : Entry) : Type 0 where
  pub reads : ReadsNone e
  pub silent : (u : ℕ) → silences (Some e) u ≡ false
  pub awake : wakes (Some e) ≡ false

pub nothing_collision : DoesNothing Collision
nothing_collision = record { reads = λ a u. (refl, refl); silent = λ u. refl; awake = refl }

pub nothing_garbled : DoesNothing Garbled
nothing_garbled = record { reads = λ a u. (refl, refl); silent = λ u. refl; awake = refl }

pub nothing_unknown : DoesNothing Unknown
nothing_unknown = record { reads = λ a u. (refl, refl); silent = λ u. refl; awake = refl }

pub nothing_listed : (v : ℕ) → DoesNothing (Listed v)
nothing_listed v = record { reads = λ a u. (refl, refl); silent = λ u. refl; awake = refl }

pub walk_idle : (bs : List ℕ) (es : List Entry) (i : ℕ) (e : Entry) (w : WalkState) → slice_get es i ≡ Some e → DoesNothing e → IsWalkAt bs es i w → IsWalkAt bs es (i + 1) w
walk_idle bs es i e w k n h = walk_unread bs es i e w w k n.reads (ready_still bs es _ i e w.open k (λ u is. n.silent u) n.awake h.states) refl refl h

pub sent_none : (q : Request) → ReadsNone (Sent q)
sent_none q a u = (refl, refl)

pub cycle_none : ReadsNone FieldCycle
cycle_none a u = (refl, refl)

-- where no slot is read, the replies are borne out as before
pub borne_idle : (es : List Entry) (i : ℕ) (e : Entry) → slice_get es i ≡ Some e → ReadsNone e → AreBorneOut es i → AreBorneOut es (i + 1)
borne_idle es i e k none b = rw add-one (record {
  answer = λ j u below hear. elim (cases_lt j i) [
    | inl before ↦ b.answer j u before hear
    | inr not_before ↦
        let here : j ≡ i = omega (arith, below, not_before) in
        let no = heard_none es i e u k none in
        absurd (false≢true (cc))
  ];
  openness = λ u heard. rw (open_none es i e u k none) (b.openness u (rw (heard_none es i e u k none) at heard));
})

-- ---- a slot is read

-- the entry rules out the Ready UIDs of the parts for which the test holds
pub record RulesOut (bs : List ℕ) (es : List Entry) (i : ℕ) (out : ℕ → Bool) : Type 0 where
  pub openness : (u p : ℕ) → IsUid u → IsPartOf bs (mirror u) p → is_open (slots_before es (suc i)) u ≡ (is_open (slots_before es i) u && not (out p && not (is_quiet es i u)))
  pub quietness : (u : ℕ) → is_quiet es (suc i) u ≡ is_quiet es i u

read_marks : (o q r : Bool) → ((o && not q) && not r) ≡ ((o && not (r && not q)) && not q)
read_marks true true true = refl
read_marks true true false = refl
read_marks true false true = refl
read_marks true false false = refl
read_marks false q r = refl

read_list : (o q r : Bool) → (o && q) ≡ ((o && not (r && not q)) && q)
read_list true true true = refl
read_list true true false = refl
read_list true false true = refl
read_list true false false = refl
read_list false q r = refl

read_kept : (o q r : Bool) → ((o && not q) && r) ≡ false → (o && not (r && not q)) ≡ o
read_kept true true true kept = refl
read_kept true true false kept = refl
read_kept true false true kept = absurd (false≢true (sym kept))
read_kept true false false kept = refl
read_kept false q r kept = refl

read_out : (o q r : Bool) → ((o && not q) && r) ≡ true → (o ≡ true) × ((o && not (r && not q)) ≡ false)
read_out true true true it = absurd (false≢true it)
read_out true true false it = absurd (false≢true it)
read_out true false true it = (refl, refl)
read_out true false false it = absurd (false≢true it)
read_out false q r it = absurd (false≢true it)

-- the end of a UID, by whether it is ruled out here
end_read : (es : List Entry) (i u n m : ℕ) (o q r : Bool) → o ≡ is_open (slots_before es i) u → is_open (slots_before es (suc i)) u ≡ (o && not (r && not q)) → m ≡ (if (o && not q) && r then i + 1 else n) → IsEnd es i u n → IsEnd es (suc i) u m
end_read es i u n m o q r before after is h = elim (cases_Bool ((o && not q) && r)) [
  | inl it ↦ let w = read_out o q r it in rw (is, it) (end_here es i u (sym before ∙ w.0) (after ∙ w.1))
  | inr kept ↦ rw (is, kept) (end_kept es i u n (after ∙ (read_kept o q r kept ∙ before)) h)
]

pub walk_read : (bs : List ℕ) (es : List Entry) (i : ℕ) (out : ℕ → Bool) (old new : WalkState) → RulesOut bs es i out → IsRuledOut old new out (i + 1) → ((u p : ℕ) → IsUid u → IsPartOf bs (mirror u) p → is_marked new.heard p ≡ (hears (slice_get es i) u || is_marked old.heard p)) → IsWalkAt bs es i old → IsWalkAt bs es (i + 1) new
walk_read bs es i out old new rules ruled heard h = rw add-one (record {
  states = record {
    room = ruled.room ∙ h.states.room;
    ready = λ u p is at. rw (rules.openness u p is at, rules.quietness u, ruled.ready p, h.states.ready u p is at) (read_marks (is_open (slots_before es i) u) (is_quiet es i u) (out p));
    quiet = λ u p is at. rw (rules.openness u p is at, rules.quietness u, ruled.quiet, h.states.quiet u p is at) (read_list (is_open (slots_before es i) u) (is_quiet es i u) (out p));
  };
  ends = record {
    room = new.ends_room ∙ ruled.room ∙ h.states.room;
    each = λ u p is at. end_read es i u _ _ (is_open (slots_before es i) u) (is_quiet es i u) (out p) refl (rules.openness u p is at) (ruled.ends p ∙ rw (h.states.ready u p is at) refl) (h.ends.each u p is at);
  };
  heard = λ u p is at. rw (heard u p is at, h.heard u p is at) refl;
})

-- ---- the entry was a silent slot, or heard a UID

silent_rule : (o q l : Bool) (u : ℕ) → (o && entry_allows (reading_of Silent) (l && not q) u) ≡ (o && not (l && not q))
silent_rule o q l u = refl

pub silent_rules_out : (bs : List ℕ) (es : List Entry) (i : ℕ) (s : Span) → slice_get es i ≡ Some Silent → IsSpanAt bs es i s → RulesOut bs es i (is_within s)
silent_rules_out bs es i s k span = record {
  openness = λ u p is at. open_step es i Silent u k ∙ rw (span u p is at) refl;
  quietness = λ u. quiet_same es i Silent u k refl refl;
}

heard_rule : (o q l e : Bool) → (o && (not (l && not q) || e)) ≡ (o && not ((l && not e) && not q))
heard_rule true true true true = refl
heard_rule true true true false = refl
heard_rule true true false true = refl
heard_rule true true false false = refl
heard_rule true false true true = refl
heard_rule true false true false = refl
heard_rule true false false true = refl
heard_rule true false false false = refl
heard_rule false q l e = refl

pub heard_rules_out : (bs : List ℕ) (es : List Entry) (i own : ℕ) (r : Reply) (s : Span) → slice_get es i ≡ Some (Heard r) → IsUid r.uid → IsPartOf bs (mirror r.uid) own → AreBorders bs → AreCut bs es → IsSpanAt bs es i s → RulesOut bs es i (is_other s own)
heard_rules_out bs es i own r s k is_too at_too borders cut span = record {
  openness = λ u p is at.
      let named : names (slice_get es i) r.uid ≡ true = rw k (eqb-same r.uid) in
      let mine = own_part bs es i u r.uid p own borders cut named is is_too at at_too in
      open_step es i (Heard r) u k ∙ rw (span u p is at, eq_swapped u r.uid, mine) (heard_rule (is_open (slots_before es i) u) (is_quiet es i u) (is_within s p) (p == own));
  quietness = λ u. quiet_same es i (Heard r) u k refl refl;
}

kept_rule : (o q : Bool) → (o && true) ≡ (o && not (false && not q))
kept_rule o q = refl

-- a captured reply rules out none
pub captured_rules_out : (bs : List ℕ) (es : List Entry) (i : ℕ) (r : Reply) → slice_get es i ≡ Some (Captured r) → RulesOut bs es i (λ p. false)
captured_rules_out bs es i r k = record {
  openness = λ u p is at. open_step es i (Captured r) u k ∙ kept_rule (is_open (slots_before es i) u) (is_quiet es i u);
  quietness = λ u. quiet_same es i (Captured r) u k refl refl;
}

none_out : (marked : Bool) → marked ≡ (marked && not false)
none_out true = refl
none_out false = refl

none_ended : (marked : Bool) (end n : ℕ) → n ≡ (if marked && false then end else n)
none_ended true end n = refl
none_ended false end n = refl

pub nothing_ruled_out : (old new : WalkState) (end : ℕ) → new.open ≡ old.open → new.ends.items ≡ old.ends.items → IsRuledOut old new (λ p. false) end
nothing_ruled_out old new end same ends = record {
  ready = λ p. rw same (none_out (is_marked old.open.ready p));
  ends = λ p. rw ends (none_ended (is_marked old.open.ready p) end (slice_index old.ends.items p));
  room = rw same refl;
  quiet = rw same refl;
}

-- the entry is a reply of this UID, and of no other
abbrev pub HearsOnly : Option Entry → ℕ → Type 0
HearsOnly o v = (u : ℕ) → hears o u ≡ (v == u)

pub heard_only : (es : List Entry) (i : ℕ) (r : Reply) → slice_get es i ≡ Some (Heard r) → HearsOnly (slice_get es i) r.uid
heard_only es i r k u = rw k refl

pub captured_only : (es : List Entry) (i : ℕ) (r : Reply) → slice_get es i ≡ Some (Captured r) → HearsOnly (slice_get es i) r.uid
captured_only es i r k u = rw k refl

-- a UID is heard exactly where it lies in the part of the one that is
pub heard_part : (bs : List ℕ) (es : List Entry) (i u p v own : ℕ) → HearsOnly (slice_get es i) v → AreBorders bs → AreCut bs es → IsUid v → IsUid u → IsPartOf bs (mirror v) own → IsPartOf bs (mirror u) p → hears (slice_get es i) u ≡ (p == own)
heard_part bs es i u p v own only borders cut is_too is at_too at =
    only u ∙ own_part bs es i u v p own borders cut (or_right _ _ (only v ∙ eqb-same v)) is is_too at at_too

-- ---- whether the replies are borne out

gone : (o q r : Bool) → r ≡ true → o ≡ true → not q ≡ true → (o && not (r && not q)) ≡ false
gone o q r a b c = rw (a, b, c) refl

-- a UID that is ruled out was heard: then they aren't
pub lost_not_borne : (bs : List ℕ) (es : List Entry) (i : ℕ) (out : ℕ → Bool) (w : WalkState) → RulesOut bs es i out → AreBorders bs → IsWalkAt bs es i w → ((p : ℕ) → out p ≡ true → p < part_count bs) → LosesHeard w out → AreBorneOut es (suc i) → ⊥
lost_not_borne bs es i out w rules borders h within lost b =
    let p = lost.0 in
    let there = key_of_part bs p borders (within p lost.1) in
    let k = slice_index bs p in
    let u = uid_of k in
    let is : IsUid u = is_uid k in
    let at : IsPartOf bs (mirror u) p = rw (mirror_of_uid k there.1) there.0 in
    let heard : was_heard es (suc i) u ≡ true = or_right _ _ (sym (h.heard u p is at) ∙ lost.3) in
    let lasts = and_parts _ _ (sym (h.states.ready u p is at) ∙ lost.2) in
    let out_now : is_open (slots_before es (suc i)) u ≡ false = rules.openness u p is at ∙ gone (is_open (slots_before es i) u) (is_quiet es i u) (out p) lost.1 lasts.0 lasts.1 in
    false≢true (sym out_now ∙ b.openness u heard)

-- no UID heard before is ruled out, so it is open still
pub heard_still_open : (bs : List ℕ) (es : List Entry) (i u : ℕ) (out : ℕ → Bool) (w : WalkState) → RulesOut bs es i out → AreBorders bs → IsWalkAt bs es i w → (LosesHeard w out → ⊥) → AreBorneOut es i → was_heard es i u ≡ true → is_open (slots_before es (suc i)) u ≡ true
heard_still_open bs es i u out w rules borders h none b heard =
    let o = b.openness u heard in
    let is : IsUid u = IsUid-from u (and_parts _ _ o).0 in
    let part = part_of_key bs (mirror u) borders (mirror_below 56 u) in
    let p = part.0 in
    let kept : (out p && not (is_quiet es i u)) ≡ false = false_from_ne_true _ (λ it.
    let both = and_parts _ _ it in
    none (p, both.0, h.states.ready u p is part.1 ∙ and_from _ _ o both.1, h.heard u p is part.1 ∙ heard)) in
    rules.openness u p is part.1 ∙ rw (o, kept) refl

pub borne_silent : (bs : List ℕ) (es : List Entry) (i : ℕ) (s : Span) (w : WalkState) (lost : Bool) → slice_get es i ≡ Some Silent → IsSpanAt bs es i s → s.to ≤ part_count bs → AreBorders bs → IsWalkAt bs es i w → (lost ≡ true) ↔ LosesHeard w (is_within s) → AreBorneOut es i → (not lost ≡ true) ↔ AreBorneOut es (i + 1)
borne_silent bs es i s w lost k span within borders h iff b =
    let rules = silent_rules_out bs es i s k span in
    rw add-one (
      (λ fine. record {
        answer = λ j u below hear. elim (cases_lt j i) [
          | inl before ↦ b.answer j u before hear
          | inr not_before ↦
              let here : j ≡ i = omega (arith, below, not_before) in
              absurd (false≢true (rw (here, k) at hear))
        ];
        openness = λ u heard. heard_still_open bs es i u (is_within s) w rules borders h (λ l. let it = iff.1 l in false≢true (rw it at fine)) b (rw k at heard);
      }),
      (λ b'. rw (false_from_ne_true lost (λ it. lost_not_borne bs es i (is_within s) w rules borders h (λ p in_span. omega (arith, within, ltb-true p s.to (and_parts _ _ in_span).1)) (iff.0 it) b')) refl),
    )

not_own : (s : Span) (own : ℕ) → is_other s own own ≡ false
not_own s own = grind (arith, nat_tests, eqb-same)

within_count : (bs : List ℕ) (s : Span) (p : ℕ) → s.to ≤ part_count bs → is_within s p ≡ true → p < part_count bs
within_count bs s p within in_span = omega (arith, ltb-true p s.to (and_parts _ _ in_span).1)

-- a UID was read, and the parts for which the test holds are ruled out, of which its own is none
borne_reply : (bs : List ℕ) (es : List Entry) (i v own : ℕ) (s : Span) (out : ℕ → Bool) (w : WalkState) (fine : Bool) → HearsOnly (slice_get es i) v → RulesOut bs es i out → out own ≡ false → ((p : ℕ) → out p ≡ true → is_within s p ≡ true) → IsUid v → IsPartOf bs (mirror v) own → IsSpanAt bs es i s → s.to ≤ part_count bs → AreBorders bs → IsWalkAt bs es i w → (fine ≡ true) ↔ ((is_within s own ≡ true) × (is_marked w.open.ready own ≡ true) × (LosesHeard w out → ⊥)) → AreBorneOut es i → (fine ≡ true) ↔ AreBorneOut es (i + 1)
borne_reply bs es i v own s out w fine only rules mine inside is at span within borders h iff b =
    let known = h.states.ready v own is at in
    let lies = span v own is at in
    rw add-one (
      (λ it.
          let f = iff.0 it in
          let lasts = and_parts (is_open (slots_before es i) v) (not (is_quiet es i v)) (sym known ∙ f.1) in
          record {
            answer = λ j u below hear. elim (cases_lt j i) [
              | inl before ↦ b.answer j u before hear
              | inr not_before ↦
                  let here : j ≡ i = omega (arith, below, not_before) in
                  let same : v ≡ u = eqb-true _ _ (sym (only u) ∙ (rw here at hear)) in
                  rw (here, ← same) (and_from _ _ (lies ∙ f.0) lasts.1)
            ];
            openness = λ u heard. elim (or_cases (hears (slice_get es i) u) (was_heard es i u) heard) [
              | inl now ↦
                  let same : v ≡ u = eqb-true _ _ (sym (only u) ∙ now) in
                  rw (← same, rules.openness v own is at, lasts.0) (rw mine refl)
              | inr before ↦ heard_still_open bs es i u out w rules borders h f.2 b before
            ];
          }),
      (λ b'.
          let heard : hears (slice_get es i) v ≡ true = only v ∙ eqb-same v in
          let answers = and_parts _ _ (b'.answer i v (omega arith) heard) in
          let open_after = b'.openness v (or_left _ _ heard) in
          let open_before = (and_parts _ _ (sym (rules.openness v own is at) ∙ open_after)).0 in
          iff.1 (
            sym lies ∙ answers.0,
            known ∙ and_from _ _ open_before answers.1,
            λ lost. lost_not_borne bs es i out w rules borders h (λ p gone. within_count bs s p within (inside p gone)) lost b',
          )),
    )

pub borne_heard : (bs : List ℕ) (es : List Entry) (i own : ℕ) (r : Reply) (s : Span) (w : WalkState) (fine : Bool) → slice_get es i ≡ Some (Heard r) → IsUid r.uid → IsPartOf bs (mirror r.uid) own → IsSpanAt bs es i s → s.to ≤ part_count bs → AreBorders bs → AreCut bs es → IsWalkAt bs es i w → (fine ≡ true) ↔ ((is_within s own ≡ true) × (is_marked w.open.ready own ≡ true) × (LosesHeard w (is_other s own) → ⊥)) → AreBorneOut es i → (fine ≡ true) ↔ AreBorneOut es (i + 1)
borne_heard bs es i own r s w fine k is at span within borders cut h iff b =
    borne_reply bs es i r.uid own s (is_other s own) w fine (heard_only es i r k) (heard_rules_out bs es i own r s k is at borders cut span) (not_own s own) (λ p other. (and_parts _ _ other).0) is at span within borders h iff b

pub borne_captured : (bs : List ℕ) (es : List Entry) (i own : ℕ) (r : Reply) (s : Span) (w : WalkState) (fine : Bool) → slice_get es i ≡ Some (Captured r) → IsUid r.uid → IsPartOf bs (mirror r.uid) own → IsSpanAt bs es i s → s.to ≤ part_count bs → AreBorders bs → IsWalkAt bs es i w → (fine ≡ true) ↔ ((is_within s own ≡ true) × (is_marked w.open.ready own ≡ true)) → AreBorneOut es i → (fine ≡ true) ↔ AreBorneOut es (i + 1)
borne_captured bs es i own r s w fine k is at span within borders h iff b =
    borne_reply bs es i r.uid own s (λ p. false) w fine (captured_only es i r k) (captured_rules_out bs es i r k) refl (λ p gone. absurd (false≢true gone)) is at span within borders h ((λ it. let f = iff.0 it in (f.0, f.1, λ lost. false≢true lost.1)), (λ f. iff.1 (f.0, f.1))) b
