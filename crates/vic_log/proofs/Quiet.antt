-- A tag is Quiet where a Stay Quiet with its UID stands before, and no field cycle between.
use Rattle.vic_log.proofs.Words.{◌≡◌, ℕ, zero, suc, List, true, not, Option, Some, arith, ◌≢◌, nat_tests, cases_eq, and_parts, and_from, or_cases, or_left, or_right, false≢true, Entry, FieldCycle, wakes, is_quiet}
use Rattle.vic_log.specs.Quiet.{IsSilenced}

no_wake : (o : Option Entry) → o ≢ Some FieldCycle → not (wakes o) ≡ true
no_wake o h = grind (arith, nat_tests)

pub quiet-silenced : (es : List Entry) (i u : ℕ) → is_quiet es i u ≡ true → IsSilenced es i u
quiet-silenced es zero u h = absurd (false≢true h)
quiet-silenced es (suc n) u h = grind (arith, nat_tests, and_parts, cases_eq, or_cases, quiet-silenced es n u)

pub silenced-quiet : (es : List Entry) (i u : ℕ) → IsSilenced es i u → is_quiet es i u ≡ true
silenced-quiet es zero u s = let below = s.1 in absurd (omega arith)
silenced-quiet es (suc n) u s = grind (arith, nat_tests, or_left, or_right, and_from, no_wake, cases_eq, silenced-quiet es n u)
