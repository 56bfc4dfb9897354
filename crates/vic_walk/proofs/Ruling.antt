-- The parts of a span are ruled out one after another.
use Rattle.vic_walk.proofs.Words.{◌≡◌, ◌↔◌, refl, false≢true, ℕ, ◌+◌, ◌<◌, ◌≤◌, Bool, true, false, not, ◌&&◌, ◌||◌, List, arith, nat_tests, length, nat_lt, if◌then◌else◌, cases_lt, cases_eq, or_cases, or_left, or_right, and_parts, and_from, inl, inr, slice_index, slice_set, sym, ◌∙◌, ◌≢◌, and-false, get_or-set_same, get_or-set_other, length-set, IsFirst, NoneBetween, is_marked}
use Rattle.vic_walk.specs.declared.steps.Span.{Span}
use Rattle.vic_walk.specs.declared.walk_state.WalkState.{WalkState}
use Rattle.vic_walk.specs.Steps.{is_within}
use Rattle.vic_walk.specs.inner.Ruled.{LosesHeard, IsRuledOut}

-- the part is one of the span's before part `from`
abbrev pub is_before : Span → ℕ → ℕ → Bool
is_before s from p = is_within s p && nat_lt p from

-- one of them lasted, and was heard
abbrev pub HasLostBefore : WalkState → Span → ℕ → Type 0
HasLostBefore old s from = (p : ℕ) × (is_before s from p ≡ true) × (is_marked old.open.ready p ≡ true) × (is_marked old.heard p ≡ true)

-- those that lasted are ruled out
pub record IsRuledOutTo (old now : WalkState) (s : Span) (from end : ℕ) (lost : Bool) : Type 0 where
  pub low : s.from ≤ from
  pub ready : (p : ℕ) → is_marked now.open.ready p ≡ (is_marked old.open.ready p && not (is_before s from p))
  pub ends : (p : ℕ) → slice_index now.ends.items p ≡ (if is_marked old.open.ready p && is_before s from p then end else slice_index old.ends.items p)
  pub room : length now.open.ready ≡ length old.open.ready
  pub quiet : now.open.quiet.items ≡ old.open.quiet.items
  pub heard : now.heard ≡ old.heard
  pub loses : (lost ≡ true) ↔ HasLostBefore old s from

none_before : (s : Span) (p : ℕ) → is_before s s.from p ≡ false
none_before s p = grind (arith, nat_tests)

pub none_ruled_out : (old : WalkState) (s : Span) (end : ℕ) → IsRuledOutTo old old s s.from end false
none_ruled_out old s end = record {
  low = omega arith;
  ready = λ p. rw (none_before s p) (grind (arith, nat_tests));
  ends = λ p. rw (none_before s p) (grind (arith, nat_tests));
  room = refl;
  quiet = refl;
  heard = refl;
  loses = ((λ no. absurd (false≢true no)), (λ w. let no = none_before s w.0 in cc));
}

marked_end : (old now : List Bool) (s : Span) (from p : ℕ) → is_marked now p ≡ (is_marked old p && not (is_before s from p)) → NoneBetween (is_marked now) from s.to → s.from ≤ from → is_marked now p ≡ (is_marked old p && not (is_within s p))
marked_end old now s from p here none low = elim (cases_lt p from) [
  | inl below ↦ grind (arith, nat_tests)
  | inr above ↦ elim (cases_lt p s.to) [
    | inl within ↦ let no = none p above within in grind (arith, nat_tests)
    | inr beyond ↦ grind (arith, nat_tests)
  ]
]

ruled_end : (old now : List Bool) (s : Span) (from p : ℕ) → is_marked now p ≡ (is_marked old p && not (is_before s from p)) → NoneBetween (is_marked now) from s.to → s.from ≤ from → (is_marked old p && is_before s from p) ≡ (is_marked old p && is_within s p)
ruled_end old now s from p here none low = elim (cases_lt p from) [
  | inl below ↦ grind (arith, nat_tests)
  | inr above ↦ elim (cases_lt p s.to) [
    | inl within ↦ let no = none p above within in grind (arith, nat_tests)
    | inr beyond ↦ grind (arith, nat_tests)
  ]
]

pub all_ruled_out : (old now : WalkState) (s : Span) (from end : ℕ) (lost : Bool) → NoneBetween (is_marked now.open.ready) from s.to → IsRuledOutTo old now s from end lost → IsRuledOut old now (is_within s) end
all_ruled_out old now s from end lost none h = record {
  ready = λ p. marked_end old.open.ready now.open.ready s from p (h.ready p) none h.low;
  ends = λ p. rw (← ruled_end old.open.ready now.open.ready s from p (h.ready p) none h.low) (h.ends p);
  room = h.room;
  quiet = h.quiet;
}

pub all_lost : (old now : WalkState) (s : Span) (from end : ℕ) (lost : Bool) → NoneBetween (is_marked now.open.ready) from s.to → IsRuledOutTo old now s from end lost → (lost ≡ true) ↔ LosesHeard old (is_within s)
all_lost old now s from end lost none h = (
  (λ yes. let w = h.loses.0 yes in (w.0, (and_parts _ _ w.1).0, w.2, w.3)),
  (λ w.
      let same = ruled_end old.open.ready now.open.ready s from w.0 (h.ready w.0) none h.low in
      let both : (is_marked old.open.ready w.0 && is_before s from w.0) ≡ true = rw (same, w.2, w.1) refl in
      h.loses.1 (w.0, (and_parts _ _ both).1, w.2, w.3)),
)

-- ---- one part more

pub marked_at : (xs : List Bool) (i : ℕ) (b : Bool) → i < length xs → is_marked (slice_set xs i b) i ≡ b
marked_at xs i b h = get_or-set_same xs i b false h

pub marked_else : (xs : List Bool) (i p : ℕ) (b : Bool) → p ≢ i → is_marked (slice_set xs i b) p ≡ is_marked xs p
marked_else xs i p b h = get_or-set_other xs i p b false h

-- a part before the first that lasts: nothing changes there
skipped : (old now : List Bool) (s : Span) (from part p : ℕ) → IsFirst (is_marked now) from part → part < s.to → s.from ≤ from → p ≢ part → is_marked now p ≡ (is_marked old p && not (is_before s from p)) → (is_marked now p ≡ (is_marked old p && not (is_before s (part + 1) p))) × ((is_marked old p && is_before s from p) ≡ (is_marked old p && is_before s (part + 1) p))
skipped old now s from part p first within low other here = elim (cases_lt p from) [
  | inl below ↦ let a = first.from in (grind (arith, nat_tests), grind (arith, nat_tests))
  | inr above ↦ elim (cases_lt p part) [
    | inl between ↦ let no = first.before p above between in (grind (arith, nat_tests), grind (arith, nat_tests))
    | inr beyond ↦ (grind (arith, nat_tests), grind (arith, nat_tests))
  ]
]

-- the part itself lasted
found_old : (old now : List Bool) (s : Span) (from part : ℕ) → IsFirst (is_marked now) from part → part < s.to → s.from ≤ from → is_marked now part ≡ (is_marked old part && not (is_before s from part)) → (is_marked old part ≡ true) × (is_before s (part + 1) part ≡ true)
found_old old now s from part first within low here =
    let yes = first.passes in let a = first.from in (grind (arith, nat_tests, and_parts), grind (arith, nat_tests, and_from))

-- the first part from `from` on that is marked is ruled out too
pub ruled_out_next : (old now new : WalkState) (s : Span) (from end part : ℕ) (lost : Bool) → IsFirst (is_marked now.open.ready) from part → part < s.to → part < length now.open.ready → new.open.ready ≡ slice_set now.open.ready part false → new.ends.items ≡ slice_set now.ends.items part end → new.open.quiet.items ≡ now.open.quiet.items → new.heard ≡ now.heard → IsRuledOutTo old now s from end lost → IsRuledOutTo old new s (part + 1) end (lost || is_marked now.heard part)
ruled_out_next old now new s from end part lost first within room ready ends quiet heard h =
    let mine = found_old old.open.ready now.open.ready s from part first within h.low (h.ready part) in
    let others : (p : ℕ) → p ≢ part → _ = λ p other. skipped old.open.ready now.open.ready s from part p first within h.low other (h.ready p) in
    record {
      low = omega (arith, h.low, first.from);
      ready = λ p. elim (cases_eq p part) [
        | inl here ↦ rw (ready, here, marked_at now.open.ready part false room, mine.1) (sym (and-false _))
        | inr other ↦ rw (ready, marked_else now.open.ready part p false other) (others p other).0
      ];
      ends = λ p. elim (cases_eq p part) [
        | inl here ↦ rw (ends, here, get_or-set_same now.ends.items part end 0 (omega (arith, room, now.ends_room)), mine.0, mine.1) refl
        | inr other ↦ rw (ends, get_or-set_other now.ends.items part p end 0 other, ← (others p other).1) (h.ends p)
      ];
      room = rw ready (length-set now.open.ready part false ∙ h.room);
      quiet = quiet ∙ h.quiet;
      heard = heard ∙ h.heard;
      loses = (
        (λ yes. elim (or_cases lost _ yes) [
          | inl before ↦ let w = h.loses.0 before in (w.0, grind (arith, nat_tests, and_parts, and_from, first.from, w.1), w.2, w.3)
          | inr it ↦ (part, mine.1, mine.0, rw (← h.heard) it)
        ]),
        (λ w. elim (cases_eq w.0 part) [
          | inl here ↦ or_right lost _ (rw (h.heard, ← here) w.3)
          | inr other ↦
              let both : (is_marked old.open.ready w.0 && is_before s from w.0) ≡ true = rw ((others w.0 other).1, w.2, w.1) refl in
              or_left lost _ (h.loses.1 (w.0, (and_parts _ _ both).1, w.2, w.3))
        ]),
      );
    }
