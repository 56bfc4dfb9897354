-- Which open UIDs answer in the unread slots, one slot after another.
use Rattle.std.specs.List.{All, Any}
use Rattle.std.proofs.lemmas.List.{get_or_append_left}
use Rattle.std.proofs.lemmas.List.Elements.{All-nil, All-push, All-weaker}
use Rattle.std.proofs.lemmas.List.Quantifiers.{Any-push, all_pairs_push}
use Rattle.std.proofs.Common.{length-append}
use Rattle.vic_tree.specs.OpenSet.{UpToThree}
use Rattle.vic_log.specs.Slots.{slots_of}
use Rattle.vic_walk.specs.Answers.{AreAnswering, IsAnsweringAt, is_open_there, is_unread}
use Rattle.vic_walk.specs.Needs.{needs, needs_at}
use Rattle.vic_walk.specs.declared.answers.Answering.{Answering}
use Rattle.vic_walk.specs.declared.steps.Span.{Span}
use Rattle.vic_walk.specs.declared.part_states.PartStates.{PartStates}
use Rattle.vic_walk.specs.inner.PartUids.{AreUidsOf}
use Rattle.vic_walk.specs.Steps.{IsSpanAt, is_within}
use Rattle.vic_walk.proofs.Words.{◌≡◌, ℕ, ◌+◌, ◌<◌, ◌≤◌, ◌++◌, ◌∷◌, ◌∙◌, ◌&&◌, not, Bool, true, false, List, [], inl, inr, refl, sym, and_parts, arith, cases_lt, false≢true, slice_get, Collision, Entry, Garbled, is_slot, IsPartOf, AreStatesAt, IsUid, IsUid-from, answers_at, is_marked, is_open, is_quiet, mirror}

-- a line that requires tags is that of a slot
pub needing_slot : (e : Entry) → 0 < needs e → is_slot e ≡ true
needing_slot Collision some = refl
needing_slot Garbled some = refl
needing_slot e some = absurd (omega (arith, some))

pub answering_none : (es : List Entry) → AreAnswering es 0 []
answering_none es = record { rising = λ i j d lt within. absurd (omega (arith, within)); each = All-nil _; all = λ i below. absurd (omega arith) }

-- it is of a position before n
abbrev IsBefore : List Entry → ℕ → Answering → Type 0
IsBefore es n a = (i : ℕ) × (i < n) × IsAnsweringAt es i a

later : (es : List Entry) (n m : ℕ) (found : List Answering) → n ≤ m → All (IsBefore es n) found → All (IsBefore es m) found
later es n m found le each = All-weaker (IsBefore es n) (IsBefore es m) (λ a it. (it.0, omega (arith, it.1, le), it.2)) found each

-- nothing unread from position n to the one before m
pub answering_rest : (es : List Entry) (n m : ℕ) (found : List Answering) → n ≤ m → ((i : ℕ) → n ≤ i → i < m → is_unread (slice_get es i) ≡ false) → AreAnswering es n found → AreAnswering es m found
answering_rest es n m found le read h = record {
  rising = h.rising;
  each = later es n m found le h.each;
  all = λ i below unread. elim (cases_lt i n) [
    | inl before ↦ h.all i before unread
    | inr past ↦ absurd (false≢true (sym (read i past below) ∙ unread))
  ];
}

pub answering_kept : (es : List Entry) (n : ℕ) (found : List Answering) → is_unread (slice_get es n) ≡ false → AreAnswering es n found → AreAnswering es (n + 1) found
answering_kept es n found read h = answering_rest es n (n + 1) found (omega arith) (λ i from below. let here : i ≡ n = omega (arith, from, below) in rw here read) h

any_before : {X : Type 0} (P : X → Type 0) (xs ys : List X) → Any P xs → Any P (xs ++ ys)
any_before P xs ys h = (h.0, h.1, omega (arith, length-append xs ys, h.2), get_or_append_left xs ys h.1 h.0 h.2 ∙ h.3, h.4)

pub answering_more : (es : List Entry) (n : ℕ) (found new : List Answering) (a : Answering) → new ≡ found ++ a ∷ [] → IsAnsweringAt es n a → AreAnswering es n found → AreAnswering es (n + 1) new
answering_more es n found new a is here h = rw is (record {
  rising = all_pairs_push (λ (x y : Answering). x.at < y.at) found a h.rising (λ k d within. let it = h.each k d within in omega (arith, it.1, it.2.place, here.place));
  each = All-push (IsBefore es (n + 1)) found a (later es n (n + 1) found (omega arith) h.each) (n, omega arith, here);
  all = λ i below unread. elim (cases_lt i n) [
    | inl before ↦ any_before (IsAnsweringAt es i) found (a ∷ []) (h.all i before unread)
    | inr not_before ↦
        let same : i ≡ n = omega (arith, below, not_before) in
        Any-push (IsAnsweringAt es i) found a (rw same here)
  ];
})

-- ---- which UIDs answer

open_is_uid : (es : List Entry) (i u : ℕ) → is_open_there es i u ≡ true → IsUid u
open_is_uid es i u it = IsUid-from u (and_parts _ _ (and_parts (is_open (slots_of es) u) _ it).0).0

answers_by : (o q l : Bool) → (o && (l && not q)) ≡ (l && (o && not q))
answers_by true true true = refl
answers_by true true false = refl
answers_by true false true = refl
answers_by true false false = refl
answers_by false q true = refl
answers_by false q false = refl

-- of a set of UIDs, those that answer are in the parts of the span that are marked
pub open_by_parts : (bs : List ℕ) (es : List Entry) (set : ℕ → Bool) (i : ℕ) (s : Span) (w : PartStates) → IsSpanAt bs es i s → AreStatesAt bs es set i w → (u p : ℕ) → IsUid u → IsPartOf bs (mirror u) p → (set u && answers_at es i u) ≡ (is_within s p && is_marked w.ready p)
open_by_parts bs es set i s w span ready u p is at = rw (ready.ready u p is at, span u p is at) (answers_by (set u) (is_quiet es i u) (is_within s p))

pub answering_here : (bs : List ℕ) (es : List Entry) (i : ℕ) (s : Span) (w : PartStates) (a : Answering) → a.at ≡ i → is_unread (slice_get es i) ≡ true → needs_at es i ≡ a.need → IsSpanAt bs es i s → AreStatesAt bs es (is_open (slots_of es)) i w → ((t : ℕ → Bool) → AreUidsOf bs w.ready s t → UpToThree t a.uids.items) → IsAnsweringAt es i a
answering_here bs es i s w a place unread need span ready three = record {
  place = place;
  unread = unread;
  need = need;
  uids = three (is_open_there es i) (record { uids = open_is_uid es i; marked = open_by_parts bs es (is_open (slots_of es)) i s w span ready });
}
