-- Slots in a round, and entries in order.
use Rattle.vic_log.proofs.Words.{◌≡◌, ℕ, ◌<◌, List, Some, sym, ◌∙◌, ◌++◌, arith, ◌↔◌, slice_get, nat_tests, Entry, slots_left, IsInRound, IsInOrder, Sent, Listed, FieldCycle, slice_get_within, le_of_lt}
use Rattle.vic_log.proofs.Places.{agree_append, agree_upto, opener_agrees, opener_below}

pub still_there : (es fs : List Entry) (i : ℕ) (e : Entry) → slice_get es i ≡ Some e → slice_get (es ++ fs) i ≡ Some e
still_there es fs i e k = sym (agree_append es fs i (slice_get_within es i e k)) ∙ k

-- what entries in order begin with is in order
pub IsInOrder-front : (es fs : List Entry) → IsInOrder (es ++ fs) → IsInOrder es
IsInOrder-front es fs o = record {
  rounds = λ i e k r.
      let within = slice_get_within es i e k in
      let round = o.rounds i e (still_there es fs i e k) r in
      let agree = agree_upto es fs i (le_of_lt within) in
      let below = opener_below (es ++ fs) i round.0 round.2 in
      (round.0, round.1, opener_agrees i es (es ++ fs) agree ∙ round.2, agree round.0 below ∙ round.3, round.4);
  requests_first = λ i j u q lt a b. o.requests_first i j u q lt (still_there es fs i (Listed u) a) (still_there es fs j (Sent q) b);
  cycles_first = λ i j u lt a b. o.cycles_first i j u lt (still_there es fs i (Listed u) a) (still_there es fs j FieldCycle b);
  once = λ i j u w lt a b. o.once i j u w lt (still_there es fs i (Listed u) a) (still_there es fs j (Listed w) b);
}

-- a position is in a round if and only if a slot of the round is left
pub in_round-slots_left : (es : List Entry) (i : ℕ) → IsInRound es i ↔ (0 < slots_left es i)
in_round-slots_left es i = grind (arith, nat_tests)
