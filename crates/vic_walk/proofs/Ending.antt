-- A UID that is ruled out stays so: its end tells where it was open.
use Rattle.std.proofs.Math.Nat.{suc-add, zero-add}
use Rattle.vic_walk.proofs.Words.{◌≡◌, ◌==◌, ℕ, zero, suc, ◌+◌, ◌-◌, ◌≤◌, ◌∙◌, ◌||◌, true, List, None, Option, Some, and_parts, arith, cases_lt, false_from_ne_true, false≢true, inl, inr, nat_lt, nat_tests, refl, slice_get, sym, Entry, IsEnd, answers_at, is_open, reading_of, slots_before}
use Rattle.vic_walk.proofs.Entries.{entry_allows, open_past, open_step}

-- what is open after an entry was open before it
open_back_step : (es : List Entry) (i u : ℕ) (o : Option Entry) → slice_get es i ≡ o → is_open (slots_before es (suc i)) u ≡ true → is_open (slots_before es i) u ≡ true
open_back_step es i u None k it = sym (open_past es i u k) ∙ it
open_back_step es i u (Some e) k it = (and_parts (is_open (slots_before es i) u) (entry_allows (reading_of e) (answers_at es i u) u) (sym (open_step es i e u k) ∙ it)).0

open_back : (es : List Entry) (u i k : ℕ) → is_open (slots_before es (k + i)) u ≡ true → is_open (slots_before es i) u ≡ true
open_back es u i zero it = rw (zero-add i) at it
open_back es u i (suc k) it = open_back es u i k (open_back_step es (k + i) u (slice_get es (k + i)) refl (rw (suc-add k i) at it))

-- and before each earlier position
pub open_earlier : (es : List Entry) (u i j : ℕ) → i ≤ j → is_open (slots_before es j) u ≡ true → is_open (slots_before es i) u ≡ true
open_earlier es u i j le it =
    let same : j ≡ (j - i) + i = omega arith in
    open_back es u i (j - i) (rw same at it)

pub open_to_end : (es : List Entry) (n u end i : ℕ) → IsEnd es n u end → i ≤ n → is_open (slots_before es i) u ≡ (end == 0 || nat_lt i end)
open_to_end es n u zero i h le = open_earlier es u i n le h
open_to_end es n u (suc j) i h le = elim (cases_lt i (suc j)) [
  | inl before ↦ open_earlier es u i j (omega arith) h.1 ∙ sym (grind (arith, nat_tests))
  | inr after ↦ false_from_ne_true _ (λ it. false≢true (sym h.2 ∙ open_earlier es u (suc j) i (omega arith) it)) ∙ sym (grind (arith, nat_tests))
]
