-- On entries of version 2 the rules of version 3 say the same.
use Rattle.vic_log.proofs.Words.{◌≡◌, ℕ, List, ◌↔◌, sym, ◌∙◌, arith, nat_tests, Entry, IsInOrder, is_slot, Fits, outcome_of, CouldHaveGiven, IsOfSecondVersion, AreOfSecondVersion}
use Rattle.vic_log.specs.SecondVersion.{FitsSecond, CouldHaveGivenOutcomes, is_slot_in_second, IsInOrderSecond}

pub fits-second : (e : Entry) → IsOfSecondVersion e → (us : List ℕ) → Fits e us ↔ FitsSecond e (outcome_of us)
fits-second e h us = grind (arith, nat_tests)

pub given-second : (es : List Entry) → AreOfSecondVersion es → (p : List ℕ) → CouldHaveGiven p es ↔ CouldHaveGivenOutcomes p es
given-second es h p = (
  (λ g i e k. (fits-second e (h i e k) _).0 (g i e k)),
  (λ g i e k. (fits-second e (h i e k) _).1 (g i e k)),
)

slot-second : (e : Entry) → IsOfSecondVersion e → is_slot e ≡ is_slot_in_second e
slot-second e h = grind (arith, nat_tests)

pub order-second : (es : List Entry) → AreOfSecondVersion es → IsInOrder es ↔ IsInOrderSecond es
order-second es h = (
  (λ o. record { rounds = λ i e k s. o.rounds i e k (slot-second e (h i e k) ∙ s); requests_first = o.requests_first; cycles_first = o.cycles_first; once = o.once }),
  (λ o. record { rounds = λ i e k s. o.rounds i e k (sym (slot-second e (h i e k)) ∙ s); requests_first = o.requests_first; cycles_first = o.cycles_first; once = o.once }),
)
