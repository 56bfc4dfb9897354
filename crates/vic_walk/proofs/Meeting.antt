-- Which slots are met by the UIDs that are open before a position.
use Rattle.std.specs.Prelude.{max}
use Rattle.std.proofs.lemmas.List.{get_or_past}
use Rattle.vic_frame.specs.Uids.{AreDifferent}
use Rattle.vic_tree.specs.OpenSet.{UpToThree}
use Rattle.vic_walk.specs.Met.{AreMetBefore, IsMetAt, answers_open}
use Rattle.vic_walk.specs.Needs.{needs, needs_at, needs_of}
use Rattle.vic_walk.specs.declared.steps.Span.{Span}
use Rattle.vic_walk.specs.declared.part_states.PartStates.{PartStates}
use Rattle.vic_walk.specs.inner.PartUids.{AreUidsOf}
use Rattle.vic_walk.specs.inner.Unmet.{AreLacking}
use Rattle.vic_walk.specs.Steps.{IsSpanAt}
use Rattle.vic_walk.proofs.Ending.{open_earlier}
use Rattle.vic_walk.proofs.OpenAnswers.{open_by_parts}
use Rattle.vic_walk.proofs.Ruling.{marked_at, marked_else}
use Rattle.vic_walk.proofs.Words.{inl, inr, cases_Bool, cases_eq, cases_lt, false≢true, get_or-replicate, length-replicate, replicate, sym, slice_set, ◌≡◌, ℕ, ◌+◌, ◌<◌, ◌≤◌, ◌∷◌, ◌∙◌, ◌&&◌, ◌||◌, not, Bool, true, false, Option, Some, None, List, [], length, refl, ap, and_parts, and_from, arith, nat_tests, nat_lt, nat_eq, slice_get, Entry, Collision, Garbled, IsPartOf, AreStatesAt, IsUid, IsUid-from, has, is_marked, is_open, mirror, part_count, slots_before}

-- ---- which slots are met

pub needs_few : (e : Entry) → needs e ≤ 2
needs_few Collision = omega arith
needs_few Garbled = omega arith
needs_few e = omega arith

needs_of_few : (o : Option Entry) → needs_of o ≤ 2
needs_of_few (Some e) = needs_few e
needs_of_few None = omega arith

-- of up to three UIDs of a set there are as many as of any other UIDs of it, if these are few
enough : (t : ℕ → Bool) (us vs : List ℕ) (n : ℕ) → n ≤ 2 → UpToThree t us → AreDifferent vs → ((u : ℕ) → has vs u ≡ true → t u ≡ true) → n ≤ length vs → n ≤ length us
enough t (x ∷ y ∷ us) vs n few h d within le = omega arith
enough t us (x ∷ y ∷ vs) n few h d within le = grind (arith, nat_tests, h.all, within x, within y)
enough t us (x ∷ []) n few h d within le = grind (arith, nat_tests, h.all, within x)
enough t us [] n few h d within le = omega arith

-- what is met before a position is met before an earlier one
pub met_earlier : (es : List Entry) (m n j : ℕ) → m ≤ n → IsMetAt es n j → IsMetAt es m j
met_earlier es m n j le h = record {
  uids = h.uids;
  different = h.different;
  answer = λ u it.
      let both = and_parts _ _ (h.answer u it) in
      and_from _ _ (open_earlier es u m n le both.0) both.1;
  enough = h.enough;
}

pub met_up_to_max : (es : List Entry) (a b m : ℕ) → m ≡ max a b → AreMetBefore es a → AreMetBefore es b → AreMetBefore es m
met_up_to_max es a b m is met_a met_b = elim (cases_lt a b) [
  | inl less ↦ let same : m ≡ b = omega (arith, is, less) in rw same met_b
  | inr more ↦ let same : m ≡ a = omega (arith, is, more) in rw same met_a
]

-- up to three UIDs tell whether it is met
pub met_by : (es : List Entry) (n j : ℕ) (us : List ℕ) → UpToThree (answers_open es n j) us → needs_at es j ≤ length us → IsMetAt es n j
met_by es n j us three le = record { uids = us; different = three.different; answer = three.members; enough = le }

pub met_only_by : (es : List Entry) (n j : ℕ) (us : List ℕ) → UpToThree (answers_open es n j) us → IsMetAt es n j → needs_at es j ≤ length us
met_only_by es n j us three h = enough (answers_open es n j) us h.uids (needs_at es j) (needs_of_few (slice_get es j)) three h.different h.answer h.enough

-- these are the UIDs of the parts of the span that are marked
pub uids_at : (bs : List ℕ) (es : List Entry) (n i : ℕ) (s : Span) (w : PartStates) → IsSpanAt bs es i s → AreStatesAt bs es (is_open (slots_before es n)) i w → AreUidsOf bs w.ready s (answers_open es n i)
uids_at bs es n i s w span h = record {
  uids = λ u it. IsUid-from u (and_parts _ _ (and_parts (is_open (slots_before es n) u) _ it).0).0;
  marked = open_by_parts bs es (is_open (slots_before es n)) i s w span h;
}

-- ---- which candidates lack tags

-- none of no marks
pub none_marked : (n k : ℕ) → is_marked (replicate n false) k ≡ false
none_marked n k = elim (cases_lt k n) [
  | inl below ↦ get_or-replicate n k false false below
  | inr past ↦ get_or_past (replicate n false) k false (omega (arith, past, length-replicate n false))
]

-- all else is met, where the candidates are all that lack tags at a later position
pub met_else : (es : List Entry) (slots lacking : List Bool) (n m k : ℕ) → AreLacking es slots n n lacking → n ≤ m → k < n → (is_marked slots k ≡ false → IsMetAt es m k) → is_marked lacking k ≡ false → IsMetAt es n k
met_else es slots lacking n m k h le below others enough = elim (cases_Bool (is_marked slots k)) [
  | inl marked ↦ h.met k below marked enough
  | inr other ↦ met_earlier es n m k le (others other)
]

-- up to a later one, between which candidates are met
pub lacking_more : (es : List Entry) (slots lacking : List Bool) (n m to : ℕ) → ((k : ℕ) → m ≤ k → k < to → is_marked slots k ≡ true → IsMetAt es n k) → AreLacking es slots n m lacking → AreLacking es slots n to lacking
lacking_more es slots lacking n m to between h = record {
  unmet = h.unmet;
  met = λ k below marked enough. elim (cases_lt k m) [
    | inl before ↦ h.met k before marked enough
    | inr past ↦ between k past below marked
  ];
}

-- and one that isn't met
pub lacking_put : (es : List Entry) (slots lacking : List Bool) (n k : ℕ) → k < n → length lacking ≡ n → is_marked slots k ≡ true → (IsMetAt es n k → ⊥) → AreLacking es slots n k lacking → AreLacking es slots n (k + 1) (slice_set lacking k true)
lacking_put es slots lacking n k within room marked lacks h = record {
  unmet = λ p it. elim (cases_eq p k) [
    | inl here ↦ rw here (within, marked, lacks)
    | inr other ↦ h.unmet p (sym (marked_else lacking k p true other) ∙ it)
  ];
  met = λ p below candidate enough. elim (cases_eq p k) [
    | inl here ↦ absurd (false≢true (sym enough ∙ rw here (marked_at lacking k true (omega (arith, room, within)))))
    | inr other ↦ h.met p (omega (arith, below, other)) candidate (sym (marked_else lacking k p true other) ∙ enough)
  ];
}

-- ---- before the first entry

-- what a test says of one part more
pub more_parts : (test : ℕ → Bool) (k p : ℕ) (old new : Bool) → old ≡ (nat_lt p k && test p) → new ≡ (old || (nat_eq p k && test k)) → new ≡ (nat_lt p (k + 1) && test p)
more_parts test k p old new before after = elim (cases_eq p k) [
  | inl here ↦ let same : test p ≡ test k = ap test here in grind (arith, nat_tests)
  | inr other ↦ grind (arith, nat_tests)
]

-- where it fails for that part, nothing is added
pub no_part : (p k : ℕ) (old b : Bool) → b ≡ false → old ≡ (old || (nat_eq p k && b))
no_part p k old b fails = grind (arith, nat_tests)

first_marks : (b : Bool) → b ≡ (b && not false)
first_marks true = refl
first_marks false = refl

-- parts that are all Ready
pub ready_first : (bs : List ℕ) (es : List Entry) (set : ℕ → Bool) (w : PartStates) → length w.ready ≡ part_count bs → ((p : ℕ) → has w.quiet.items p ≡ false) → ((u p : ℕ) → IsUid u → IsPartOf bs (mirror u) p → is_marked w.ready p ≡ set u) → AreStatesAt bs es set 0 w
ready_first bs es set w room none marks = record {
  room = room;
  ready = λ u p is at. marks u p is at ∙ first_marks (set u);
  quiet = λ u p is at. none p ∙ grind (arith, nat_tests);
}
