-- Where entries are in order, nothing refuses any of them.
use Rattle.vic_log.proofs.Words.{◌≡◌, ℕ, nat_tests, suc, true, false, Some, None, List, [], ◌∷◌, ◌++◌, ◌<◌, length, refl, sym, ap, arith, ⊎_elim, slice_get, nat_eq, nat_lt, not, cond-false, false_from_ne_true, or_cases, eqb-true, lt-ltb, Entry, Sent, Listed, FieldCycle, has, slots_left, is_slot, listed, IsInOrder, is_empty, first_reason}
use Rattle.vic_log.proofs.Places.{agree_upto, slice_get_seam}
use Rattle.vic_log.proofs.Order.{in_round-slots_left}
use Rattle.vic_log.proofs.Push.{slots_left_agrees}
use Rattle.vic_log.proofs.Sets.{has_here}

-- a listed UID has a position, whatever follows
has_place : (es fs : List Entry) (u : ℕ) → has (listed es) u ≡ true → (i : ℕ) × (i < length es) × (slice_get (es ++ fs) i ≡ Some (Listed u))
has_place [] fs u h = cc
has_place (Listed w ∷ es) fs u h = ⊎_elim
    (λ here. (0, omega arith, ap (λ v. Some (Listed v)) (sym (eqb-true u w here))))
    (λ rest. let p = has_place es fs u rest in (suc p.0, omega (arith, p.1), p.2))
    (or_cases (nat_eq u w) (has (listed es) u) h)
has_place (e ∷ es) fs u h = let p = has_place es fs u h in (suc p.0, omega (arith, p.1), p.2)

some_of : (us : List ℕ) → is_empty us ≡ false → (u : ℕ) × (has us u ≡ true)
some_of [] h = cc
some_of (u ∷ us) h = (u, has_here u us)

none_listed : (es fs : List Entry) → ((i u : ℕ) → i < length es → slice_get (es ++ fs) i ≡ Some (Listed u) → ⊥) → not (is_empty (listed es)) ≡ false
none_listed es fs none = grind (arith, nat_tests, some_of, has_place es fs)

slot_ok : (es fs : List Entry) (e : Entry) → IsInOrder (es ++ e ∷ fs) → is_slot e ≡ true → not (nat_lt 0 (slots_left es (length es))) ≡ false
slot_ok es fs e o s =
    let left = (in_round-slots_left (es ++ e ∷ fs) (length es)).0 (o.rounds (length es) e (slice_get_seam es e fs) s) in
    let same = slots_left_agrees (length es) es (es ++ e ∷ fs) (agree_upto es (e ∷ fs) (length es) (omega arith)) in
    ap not (lt-ltb 0 (slots_left es (length es)) (omega arith))

-- there is no reason to refuse an entry of entries in order
pub first_reason-none : {F : Type 0} (x y z : F) (es fs : List Entry) (e : Entry) → IsInOrder (es ++ e ∷ fs) → first_reason x y z es e ≡ None
first_reason-none x y z es fs (Sent q) o = cond-false _ _ _ (none_listed es (Sent q ∷ fs) (λ i u lt at. o.requests_first i (length es) u q lt at (slice_get_seam es (Sent q) fs)))
first_reason-none x y z es fs FieldCycle o = cond-false _ _ _ (none_listed es (FieldCycle ∷ fs) (λ i u lt at. o.cycles_first i (length es) u lt at (slice_get_seam es FieldCycle fs)))
first_reason-none x y z es fs (Listed u) o = cond-false _ _ _ (false_from_ne_true _ (λ some.
    let p = has_place es (Listed u ∷ fs) u some in o.once p.0 (length es) u u p.1 p.2 (slice_get_seam es (Listed u) fs) refl))
first_reason-none x y z es fs e o = cond-false _ _ _ (slot_ok es fs e o refl)
