-- The open round, from one position to the next.
use Rattle.vic_log.proofs.Words.{◌≡◌, ℕ, suc, ◌+◌, List, Option, Some, None, arith, add-one, slice_get, nat_tests, Entry, Sent, Listed, FieldCycle, IsInOrder, OpenRound, round_at, IsCursorAt}
use Rattle.vic_log.specs.declared.rounds.RoundCursor.{RoundCursor}
use Rattle.vic_log.proofs.Places.{opener_below}

-- one slot further
abbrev pub next_slot : Option OpenRound → Option OpenRound
next_slot None = None
next_slot (Some r) = Some (record { request = r.request; next = r.next + 1 })

-- the open round after an entry
abbrev pub after_round : Option OpenRound → Entry → Option OpenRound
after_round round (Sent q) = Some (record { request = q; next = 0 })
after_round round (Listed u) = None
after_round round FieldCycle = None
after_round round e = next_slot round

pub round_step : (es : List Entry) (i : ℕ) (e : Entry) → slice_get es i ≡ Some e → round_at es (suc i) ≡ after_round (round_at es i) e
round_step es i e k = grind (arith, nat_tests, opener_below)

pub round_passed : (es : List Entry) (i : ℕ) (e : Entry) (round next : Option OpenRound) → next ≡ after_round round e → slice_get es i ≡ Some e → round ≡ round_at es i → next ≡ round_at es (i + 1)
round_passed es i e round next h k r = grind (arith, nat_tests, round_step, add-one)

pub cursor_passed : (es : List Entry) (i : ℕ) (e : Entry) (old new : RoundCursor) → IsInOrder es → slice_get es i ≡ Some e → new.round ≡ round_at es (i + 1) → IsCursorAt es (i + 1) new
cursor_passed es i e old new o k r = grind (arith, nat_tests)
