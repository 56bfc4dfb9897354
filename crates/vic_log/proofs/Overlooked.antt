-- A UID that is overlooked nowhere is open.
use Rattle.vic_log.proofs.Words.{◌≡◌, ℕ, zero, suc, ◌<◌, List, length, Bool, true, false, ◌&&◌, Option, Some, None, refl, subst, ◌↔◌, inl, inr, arith, nat_tests, cases_lt, and_from, and_parts, slice_get, slice_get_past, Entry, IsUid, list_all, allows, Slot, is_open, slots_before, slots_of, with_entry, answers_at}
use Rattle.vic_log.specs.Overlooked.{is_overlooked, some_denies_reply_of, IsNeverOverlooked}
use Rattle.vic_log.proofs.Supply.{is_uid_from}

and-false : (b : Bool) → b && false ≡ false
and-false true = refl
and-false false = refl

below_more : (P : ℕ → Type 0) {n : ℕ} → ((i : ℕ) → i < n → P i) → P n → (i : ℕ) → i < suc n → P i
below_more P {n} below here i k = elim (cases_lt i n) [
  | inl less ↦ below i less
  | inr more ↦ let same : n ≡ i = omega arith in subst P same here
]

-- the slot of an entry allows a UID where it isn't overlooked
entry_allows : (answers : ℕ → Bool) (o : Option Entry) (slots : List Slot) (u : ℕ)
    → (list_all (allows u) (with_entry answers o slots) ≡ true) ↔ ((answers u && some_denies_reply_of o u ≡ false) × (list_all (allows u) slots ≡ true))
entry_allows answers None slots u = grind (arith, nat_tests)
entry_allows answers (Some e) slots u = grind (arith, nat_tests, and_parts, and_from)

allowed_before : (es : List Entry) (u n : ℕ) → (list_all (allows u) (slots_before es n) ≡ true) ↔ ((i : ℕ) → i < n → is_overlooked es i u ≡ false)
allowed_before es u zero = ((λ h i k. absurd (omega arith)), (λ h. refl))
allowed_before es u (suc n) =
    let here = entry_allows (answers_at es n) (slice_get es n) (slots_before es n) u in
    let rest = allowed_before es u n in (
      (λ h. below_more (λ i. is_overlooked es i u ≡ false) (rest.0 (here.0 h).1) (here.0 h).0),
      (λ h. here.1 (h n (omega arith), rest.1 (λ i k. h i (omega arith)))),
    )

overlooked_within : (es : List Entry) (u : ℕ) → ((i : ℕ) → i < length es → is_overlooked es i u ≡ false) → IsNeverOverlooked es u
overlooked_within es u h i = elim (cases_lt i (length es)) [
  | inl below ↦ h i below
  | inr above ↦ rw (slice_get_past es i above) (and-false _)
]

pub never_overlooked : (es : List Entry) (u : ℕ) → IsUid u → IsNeverOverlooked es u ↔ (is_open (slots_of es) u ≡ true)
never_overlooked es u is = (
  (λ h. and_from _ _ (is_uid_from u is) ((allowed_before es u (length es)).1 (λ i k. h i))),
  (λ h. overlooked_within es u ((allowed_before es u (length es)).0 (and_parts _ _ h).1)),
)
