-- What a walk over a log tells: how far the log is possible, and what meets its unread slots.
use Rattle.vic_verdict.proofs.Words.{◌≡◌, ℕ, zero, suc, ◌+◌, ◌<◌, ◌≤◌, ◌∙◌, List, [], ◌∷◌, length, take, drop, get_or, Bool, true, false, Option, Some, None, refl, sym, ap, subst, arith, nat_tests, inl, inr, ⊎_elim, common_steps, gets, length-take-le, slice_get, slice_get_past, sum_by, sum_by-cons, All, cases_eq, cases_lt, and_from, and_parts, or_cases, or_left, or_right, eq-eqb, eqb-true, false_from_ne_true, false≢true, has, has_cases, AreDifferent, IsWithin, Reply, Entry, Heard, Captured, ◌&&◌, Collision, Garbled, AgreeBefore, answers_agree, answers_at, reading_of, slots_before, slots_of, is_open, with_entry, SuppliesAll, Answering, HasEnough, answering, IsPossible, IsFirstImpossible, AreFound, AreAnswering, IsAnsweringAt, is_unread, AreBorneOut, was_heard, hears, needs, needs_at, needs_of, all_needs}
use Rattle.std.proofs.Common.{is_some, ltb-true}
use Rattle.std.proofs.lemmas.List.{take-append-drop, take_all}
use Rattle.std.specs.List.{AllPairs}
use Rattle.vic_walk.specs.Met.{AreMetBefore, IsMetAt, answers_open}
use Rattle.vic_walk.specs.Walk.{IsEndOfWalk}
use Rattle.vic_walk.specs.declared.log_walk.LogWalk.{LogWalk}
use Rattle.vic_walk.proofs.Ending.{open_earlier}
use Rattle.vic_walk.proofs.Meeting.{met_only_by}
use Rattle.vic_verdict.proofs.Decide.{IsPossible-iff}
use Rattle.vic_verdict.proofs.Possibility.{IsPossible-front}
use Rattle.vic_verdict.proofs.Entries.{EntryAsks, SuppliesBefore, SuppliesAll-places, enough_needed}

-- ---- the first entries

pub taken : (n : ℕ) (es : List Entry) (j : ℕ) → j < n → slice_get (take n es) j ≡ slice_get es j
taken n es j h = grind (arith, common_steps, gets)

-- the same entries have the same slots
slots_agree : (n : ℕ) (es fs : List Entry) → AgreeBefore n es fs → slots_before es n ≡ slots_before fs n
slots_agree zero es fs a = refl
slots_agree (suc n) es fs a =
    let less : AgreeBefore n es fs = λ i h. a i (omega arith) in
    λ i. with_entry (λ u. answers_agree n es fs less u i) (a n (omega arith) i) (slots_agree n es fs less i)

-- a population could have produced the first n entries if and only if their open UIDs supply their slots
front_iff : (es : List Entry) (n : ℕ) → n ≤ length es → (IsPossible (take n es) → SuppliesBefore (is_open (slots_before es n)) es n) × (SuppliesBefore (is_open (slots_before es n)) es n → IsPossible (take n es))
front_iff es n le = (
  (λ possible. (SuppliesAll-places (is_open (slots_before es n)) es n).0 (subst (λ slots. SuppliesAll (is_open slots) slots) same ((IsPossible-iff (take n es)).0 possible))),
  (λ supplied. (IsPossible-iff (take n es)).1 (subst (λ slots. SuppliesAll (is_open slots) slots) (sym same) ((SuppliesAll-places (is_open (slots_before es n)) es n).1 supplied))),
) where
  same : slots_of (take n es) ≡ slots_before es n
  same = ap (slots_before (take n es)) (length-take-le n es le) ∙ slots_agree n (take n es) es (taken n es)

-- ---- who was heard

heard_place : (es : List Entry) (n u : ℕ) → was_heard es n u ≡ true → (j : ℕ) × (j < n) × (hears (slice_get es j) u ≡ true)
heard_place es zero u h = absurd (false≢true h)
heard_place es (suc n) u h = elim (or_cases _ _ h) [
  | inl here ↦ (n, omega arith, here)
  | inr before ↦ let w = heard_place es n u before in (w.0, omega (arith, w.1), w.2)
]

pub heard_own : (o : Option Entry) (r : Reply) → o ≡ Some (Heard r) → hears o r.uid ≡ true
heard_own o r k = rw k (eq-eqb r.uid r.uid refl)

pub captured_own : (o : Option Entry) (r : Reply) → o ≡ Some (Captured r) → hears o r.uid ≡ true
captured_own o r k = rw k (eq-eqb r.uid r.uid refl)

heard_at : (es : List Entry) (n j u : ℕ) → j < n → hears (slice_get es j) u ≡ true → was_heard es n u ≡ true
heard_at es zero j u lt k = absurd (omega (arith, lt))
heard_at es (suc n) j u lt k = elim (cases_eq j n) [
  | inl here ↦ or_left _ _ (rw here at k)
  | inr ne ↦ or_right _ _ (heard_at es n j u (omega (arith, lt, ne)) k)
]

-- an entry that hears a UID asks for it
hears_asks : (o : Option Entry) (u : ℕ) (t : ℕ → Bool) → hears o u ≡ true → ((e : Entry) → o ≡ Some e → EntryAsks (reading_of e) t) → t u ≡ true
hears_asks None u t h a = absurd (false≢true h)
hears_asks (Some (Heard r)) u t h a = subst (λ v. t v ≡ true) (eqb-true r.uid u h) (a (Heard r) refl)
hears_asks (Some (Captured r)) u t h a = subst (λ v. t v ≡ true) (eqb-true r.uid u h) (a (Captured r) refl)
hears_asks (Some e) u t h a = absurd (false≢true h)

-- ---- where the replies are borne out

borne_earlier : (es : List Entry) (m n : ℕ) → m ≤ n → AreBorneOut es n → AreBorneOut es m
borne_earlier es m n le h = record {
  answer = λ j u below heard. h.answer j u (omega (arith, below, le)) heard;
  openness = λ u heard.
      let w = heard_place es m u heard in
      open_earlier es u m n le (h.openness u (heard_at es n w.0 u (omega (arith, w.1, le)) w.2));
}

-- in possible entries they are
borne_out : (es : List Entry) (n : ℕ) → n ≤ length es → IsPossible (take n es) → AreBorneOut es n
borne_out es n le possible = record {
  answer = λ j u below h. (both j u below h).1;
  openness = λ u h. let w = heard_place es n u h in (both w.0 u w.1 w.2).0;
} where
  both : (j u : ℕ) → j < n → hears (slice_get es j) u ≡ true → (is_open (slots_before es n) u ≡ true) × (answers_at es j u ≡ true)
  both j u below h = and_parts (is_open (slots_before es n) u) (answers_at es j u) (hears_asks (slice_get es j) u (λ v. is_open (slots_before es n) v && answers_at es j v) h (λ e k. (front_iff es n le).0 possible j e below k))

-- at the end of a log that isn't broken they are
pub walked : (bs : List ℕ) (es : List Entry) (w : LogWalk) (broken : Option ℕ) → IsEndOfWalk bs es w broken → ((i : ℕ) → broken ≡ Some i → ⊥) → IsEndOfWalk bs es w None
walked bs es w None end none = end
walked bs es w (Some i) end none = absurd (none i refl)

pub unbroken : (bs : List ℕ) (es : List Entry) (w : LogWalk) (broken : Option ℕ) → IsEndOfWalk bs es w broken → is_some broken ≡ false → IsEndOfWalk bs es w None
unbroken bs es w broken end none = walked bs es w broken end (λ i some. false≢true (sym none ∙ ap is_some some))

-- and a log that is broken isn't possible
pub broken_log : (bs : List ℕ) (es : List Entry) (w : LogWalk) (broken : Option ℕ) → IsEndOfWalk bs es w broken → is_some broken ≡ true → IsPossible es → ⊥
broken_log bs es w None end some possible = false≢true some
broken_log bs es w (Some i) end some possible =
    let front = IsPossible-front (take (suc i) es) (drop (suc i) es) (subst IsPossible (sym (take-append-drop (suc i) es)) possible) in
    end.4 (borne_out es (suc i) (omega (arith, end.0)) front)

-- ---- which slots are met

-- different UIDs, as many as an entry needs, where it has what it asks for
asked_uids : (e : Entry) (t : ℕ → Bool) → EntryAsks (reading_of e) t → (us : List ℕ) × AreDifferent us × (needs e ≤ length us) × IsWithin (has us) t
asked_uids Collision t a = (
  a.0 ∷ a.1 ∷ [],
  (false_from_ne_true _ (λ h. ⊎_elim a.2 (λ no. false≢true no) (has_cases a.0 a.1 [] h)), (refl, tt)),
  omega arith,
  (λ u h. ⊎_elim (λ e. subst (λ v. t v ≡ true) (sym e) a.3) (λ rest. ⊎_elim (λ e. subst (λ v. t v ≡ true) (sym e) a.4) (λ no. absurd (false≢true no)) (has_cases u a.1 [] rest)) (has_cases u a.0 (a.1 ∷ []) h)),
)
asked_uids Garbled t a = (a.0 ∷ [], (refl, tt), omega arith, (λ u h. ⊎_elim (λ e. subst (λ v. t v ≡ true) (sym e) a.1) (λ no. absurd (false≢true no)) (has_cases u a.0 [] h)))
asked_uids e t a = ([], tt, omega arith, (λ u h. absurd (false≢true h)))

met_place : (es : List Entry) (n j : ℕ) (o : Option Entry) → slice_get es j ≡ o → ((e : Entry) → o ≡ Some e → EntryAsks (reading_of e) (answers_open es n j)) → IsMetAt es n j
met_place es n j None k asks = record { uids = []; different = tt; answer = λ u h. absurd (false≢true h); enough = rw k (omega arith) }
met_place es n j (Some e) k asks = let w = asked_uids e (answers_open es n j) (asks e refl) in record { uids = w.0; different = w.1; answer = w.3; enough = rw k w.2 }

met_front : (es : List Entry) (n : ℕ) → n ≤ length es → IsPossible (take n es) → AreMetBefore es n
met_front es n le possible j below = met_place es n j (slice_get es j) refl (λ e k. (front_iff es n le).0 possible j e below k)

-- ---- what makes entries possible

-- the replies are borne out, and the unread slots are met
pub supplied_met : (es : List Entry) (n i : ℕ) (e : Entry) → AreBorneOut es n → AreMetBefore es n → i < n → slice_get es i ≡ Some e → EntryAsks (reading_of e) (answering (is_open (slots_before es n)) es i)
supplied_met es n i (Heard r) borne met below k = let own = heard_own (slice_get es i) r k in and_from _ _ (borne.openness r.uid (heard_at es n i r.uid below own)) (borne.answer i r.uid below own)
supplied_met es n i (Captured r) borne met below k = let own = captured_own (slice_get es i) r k in and_from _ _ (borne.openness r.uid (heard_at es n i r.uid below own)) (borne.answer i r.uid below own)
supplied_met es n i Collision borne met below k = let m = met i below in enough_needed Collision _ m.uids (omega arith) m.different (rw k at m.enough) m.answer
supplied_met es n i Garbled borne met below k = let m = met i below in enough_needed Garbled _ m.uids (omega arith) m.different (rw k at m.enough) m.answer
supplied_met es n i e borne met below k = tt

possible_front : (es : List Entry) (n : ℕ) → n ≤ length es → AreBorneOut es n → AreMetBefore es n → IsPossible (take n es)
possible_front es n le borne met = (front_iff es n le).1 (λ i e below k. supplied_met es n i e borne met below k)

-- so it is with all entries
pub possible_met : (es : List Entry) → AreBorneOut es (length es) → AreMetBefore es (length es) → IsPossible es
possible_met es borne met = subst IsPossible (take_all (length es) es (omega arith)) (possible_front es (length es) (omega arith) borne met)

pub met_possible : (es : List Entry) → IsPossible es → AreMetBefore es (length es)
met_possible es possible = met_front es (length es) (omega arith) (subst IsPossible (sym (take_all (length es) es (omega arith))) possible)

-- before position m they are, and before the next one they aren't
first_at : (es : List Entry) (m : ℕ) → m < length es → AreBorneOut es m → AreMetBefore es m → (AreBorneOut es (m + 1) → AreMetBefore es (m + 1) → ⊥) → IsFirstImpossible es m
first_at es m within borne met lack = record {
  within = within;
  impossible = λ possible. lack (borne_out es (m + 1) (omega (arith, within)) possible) (met_front es (m + 1) (omega (arith, within)) possible);
  before = possible_front es m (omega (arith, within)) borne met;
}

pub first_broken : (es : List Entry) (b m : ℕ) → b < length es → AreBorneOut es b → (AreBorneOut es (suc b) → ⊥) → m ≤ b → AreMetBefore es m → (m < b → AreMetBefore es (m + 1) → ⊥) → IsFirstImpossible es m
first_broken es b m within borne broken le met lack = first_at es m (omega (arith, within, le)) (borne_earlier es m b le borne) met (λ next more. elim (cases_lt m b) [
  | inl before ↦ lack before more
  | inr past ↦ let same : m + 1 ≡ suc b = omega (arith, le, past) in broken (subst (AreBorneOut es) same next)
])

pub first_unmet : (es : List Entry) (n m : ℕ) → length es ≡ n → AreBorneOut es (length es) → (AreMetBefore es (length es) → ⊥) → m ≤ n → AreMetBefore es m → (m < n → AreMetBefore es (m + 1) → ⊥) → IsFirstImpossible es m
first_unmet es n m long borne unmet le met lack =
    let short : m < length es = elim (cases_lt m (length es)) [
      | inl before ↦ before
      | inr past ↦ let same : m ≡ length es = omega (arith, le, past, long) in absurd (unmet (subst (AreMetBefore es) same met))
    ] in
    first_at es m short (borne_earlier es m (length es) (omega (arith, le, long)) borne) met (λ next more. lack (omega (arith, short, long)) more)

-- ---- what meets the unread slots

pub unread_needs : (o : Option Entry) → is_unread o ≡ true → 0 < needs_of o
unread_needs o h = ltb-true 0 (needs_of o) h

needs_unread : (o : Option Entry) → 0 < needs_of o → is_unread o ≡ true
needs_unread o some = grind (arith, nat_tests, some)

needed_within : (es : List Entry) (i : ℕ) → 0 < needs_at es i → i < length es
needed_within es i some = elim (cases_lt i (length es)) [
  | inl below ↦ below
  | inr past ↦ let none : slice_get es i ≡ None = slice_get_past es i (omega (arith, past)) in absurd (let no = rw none at some in omega (arith, no))
]

-- one entry's needs
needs_drop : (es : List Entry) (i : ℕ) → all_needs (drop i es) ≡ needs_at es i + all_needs (drop (suc i) es)
needs_drop [] zero = refl
needs_drop [] (suc i) = refl
needs_drop (e ∷ es) zero = sum_by-cons needs e es
needs_drop (e ∷ es) (suc i) = needs_drop es i

needs_later : (es : List Entry) (k m : ℕ) → k ≤ m → all_needs (drop m es) ≤ all_needs (drop k es)
needs_later es k zero le = let same : k ≡ zero = omega (arith, le) in rw same (omega arith)
needs_later es k (suc m) le = elim (cases_eq k (suc m)) [
  | inl same ↦ rw same (omega arith)
  | inr ne ↦ omega (arith, needs_drop es m, needs_later es k m (omega (arith, le, ne)))
]

-- slots at rising positions, from k on, require no more than the entries from there on
few_from : (es : List Entry) (k : ℕ) (found : List Answering) → AllPairs (λ (a b : Answering). a.at < b.at) found → All (λ (a : Answering). (k ≤ a.at) × (a.need ≡ needs_at es a.at)) found → sum_by (λ (a : Answering). a.need) found ≤ all_needs (drop k es)
few_from es k [] rising each = omega arith
few_from es k (a ∷ found) rising each =
    let here = each zero a (omega arith) in
    let rest = few_from es (suc a.at) found (λ i j d lt below. rising (suc i) (suc j) d (omega (arith, lt)) (omega (arith, below))) (λ i d below. (let up = rising zero (suc i) d (omega arith) (omega (arith, below)) in omega (arith, up), (each (suc i) d (omega (arith, below))).1)) in
    omega (arith, sum_by-cons (λ (b : Answering). b.need) a found, rest, needs_drop es a.at, needs_later es k a.at here.0, here.1)

pub enough_found : (es : List Entry) (found : List Answering) → AreAnswering es (length es) found → All HasEnough found → AreFound es found
enough_found es found h enough = record {
  found = λ k d below.
      let w = h.each k d below in
      let here = subst (λ (i : ℕ). IsAnsweringAt es i (get_or found k d)) (sym w.2.place) w.2 in
      record { needed = rw here.need at (unread_needs (slice_get es (get_or found k d).at) here.unread); need = here.need; uids = here.uids; enough = enough k d below };
  met = λ i some.
      let w = h.all i (needed_within es i some) (needs_unread (slice_get es i) some) in
      (w.0, w.1, w.2, w.3, w.4.place);
  few = few_from es 0 found h.rising (λ k d below. let w = h.each k d below in (omega arith, sym w.2.need ∙ ap (needs_at es) (sym w.2.place)));
}

-- what was found meets them
pub found_met : (es : List Entry) (found : List Answering) → AreAnswering es (length es) found → All HasEnough found → AreMetBefore es (length es)
found_met es found h enough j below = elim (cases_eq (needs_at es j) 0) [
  | inl none ↦ record { uids = []; different = tt; answer = λ u no. absurd (false≢true no); enough = omega (arith, none) }
  | inr some ↦
      let w = h.all j below (needs_unread (slice_get es j) (omega (arith, some))) in
      let has_enough : HasEnough w.1 = subst HasEnough w.3 (enough w.0 w.1 w.2) in
      record { uids = w.1.uids.items; different = w.4.uids.different; answer = w.4.uids.members; enough = omega (arith, w.4.need, has_enough) }
]

-- and where they are met, enough were found for each
pub met_enough : (es : List Entry) (found : List Answering) → AreAnswering es (length es) found → AreMetBefore es (length es) → All HasEnough found
met_enough es found h met k d below =
    let a : Answering = get_or found k d in
    let w = h.each k d below in
    let all = met_only_by es (length es) w.0 a.uids.items w.2.uids (met w.0 w.1) in
    omega (arith, all, w.2.need)
