-- What each entry does to a UID: whether it is open, and whether it is Quiet.
use Rattle.vic_walk.proofs.Words.{◌≡◌, ◌==◌, ℕ, suc, Bool, true, ◌&&◌, ◌||◌, not, Option, Some, None, List, ap, ◌∙◌, arith, nat_tests, slice_get, Entry, answers_at, is_quiet, silences, wakes, Reading, Slot, reading_of, slots_before, is_open, with_entry, may_be}

pub eqb-same : (n : ℕ) → (n == n) ≡ true
eqb-same n = grind (arith, nat_tests)

-- an entry leaves the UIDs open that it allows
abbrev pub entry_allows : Option Reading → Bool → ℕ → Bool
entry_allows None answers u = true
entry_allows (Some r) answers u = may_be r answers u

open_entry : (answers : ℕ → Bool) (e : Entry) (slots : List Slot) (u : ℕ) → is_open (with_entry answers (Some e) slots) u ≡ (is_open slots u && entry_allows (reading_of e) (answers u) u)
open_entry answers e slots u = grind (arith, nat_tests)

pub open_step : (es : List Entry) (i : ℕ) (e : Entry) (u : ℕ) → slice_get es i ≡ Some e → is_open (slots_before es (suc i)) u ≡ (is_open (slots_before es i) u && entry_allows (reading_of e) (answers_at es i u) u)
open_step es i e u k =
    ap (λ o. is_open (with_entry (answers_at es i) o (slots_before es i)) u) k ∙ open_entry (answers_at es i) e (slots_before es i) u

pub open_past : (es : List Entry) (i u : ℕ) → slice_get es i ≡ None → is_open (slots_before es (suc i)) u ≡ is_open (slots_before es i) u
open_past es i u k = ap (λ o. is_open (with_entry (answers_at es i) o (slots_before es i)) u) k

pub quiet_step : (es : List Entry) (i : ℕ) (e : Entry) (u : ℕ) → slice_get es i ≡ Some e → is_quiet es (suc i) u ≡ (silences (Some e) u || (not (wakes (Some e)) && is_quiet es i u))
quiet_step es i e u k = ap (λ o. silences o u || (not (wakes o) && is_quiet es i u)) k
