-- On entries of version 1 both versions say the same.
use Rattle.vic_log.proofs.Words.{◌≡◌, ℕ, zero, suc, List, false, Option, Some, None, refl, sym, subst, ◌∙◌, ◌↔◌, arith, nat_tests, filter, Entry, FieldCycle, IsInOrder, is_slot, ends_round, opener, wakes, is_quiet, Fits, answers_at, outcome_of, CouldHaveGiven, IsOfFirstVersion, AreOfFirstVersion, filter_agree}
use Rattle.vic_log.specs.FirstVersion.{ends_round_in_first, opener_in_first, is_quiet_in_first, FitsFirst, answers_at_in_first, CouldHaveGivenFirst, is_slot_in_first, IsInOrderFirst}

ends_same : (o : Option Entry) → ((e : Entry) → o ≡ Some e → IsOfFirstVersion e) → ends_round o ≡ ends_round_in_first o
ends_same None h = refl
ends_same (Some e) h = grind (arith, nat_tests, h e refl)

wakes_none : (o : Option Entry) → ((e : Entry) → o ≡ Some e → IsOfFirstVersion e) → wakes o ≡ false
wakes_none None h = refl
wakes_none (Some e) h = grind (arith, nat_tests, h e refl)

pub opener-first : (es : List Entry) → AreOfFirstVersion es → (i : ℕ) → opener es i ≡ opener_in_first es i
opener-first es h zero = refl
opener-first es h (suc j) = grind (arith, nat_tests, ends_same, opener-first es h j)

pub quiet-first : (es : List Entry) → AreOfFirstVersion es → (i u : ℕ) → is_quiet es i u ≡ is_quiet_in_first es i u
quiet-first es h zero u = refl
quiet-first es h (suc j) u = grind (arith, nat_tests, wakes_none, quiet-first es h j u)

pub fits-first : (e : Entry) → IsOfFirstVersion e → (us : List ℕ) → Fits e us ↔ FitsFirst e (outcome_of us)
fits-first e h us = grind (arith, nat_tests)

answers-first : (es : List Entry) → AreOfFirstVersion es → (i u : ℕ) → answers_at es i u ≡ answers_at_in_first es i u
answers-first es h i u = grind (arith, nat_tests, opener-first, quiet-first)

answerers-first : (es : List Entry) → AreOfFirstVersion es → (i : ℕ) (p : List ℕ) → filter (answers_at es i) p ≡ filter (answers_at_in_first es i) p
answerers-first es h i p = filter_agree (answers_at es i) (answers_at_in_first es i) (answers-first es h i) p

pub given-first : (es : List Entry) → AreOfFirstVersion es → (p : List ℕ) → CouldHaveGiven p es ↔ CouldHaveGivenFirst p es
given-first es h p = (
  (λ g i e k. (fits-first e (h i e k) _).0 (subst (Fits e) (answerers-first es h i p) (g i e k))),
  (λ g i e k. subst (Fits e) (sym (answerers-first es h i p)) ((fits-first e (h i e k) _).1 (g i e k))),
)

slot-first : (e : Entry) → IsOfFirstVersion e → is_slot e ≡ is_slot_in_first e
slot-first e h = grind (arith, nat_tests)

pub order-first : (es : List Entry) → AreOfFirstVersion es → IsInOrder es ↔ IsInOrderFirst es
order-first es h = (
  (λ o. record {
    rounds = λ i e k s. let r = o.rounds i e k (slot-first e (h i e k) ∙ s) in (r.0, r.1, sym (opener-first es h i) ∙ r.2, r.3, r.4);
    requests_first = o.requests_first;
    once = o.once;
  }),
  (λ o. record {
    rounds = λ i e k s. let r = o.rounds i e k (sym (slot-first e (h i e k)) ∙ s) in (r.0, r.1, opener-first es h i ∙ r.2, r.3, r.4);
    requests_first = o.requests_first;
    cycles_first = λ i j u lt a b. h j FieldCycle b;
    once = o.once;
  }),
)
