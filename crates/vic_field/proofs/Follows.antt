-- What entries in order leave for the next entry, and which UIDs they list.
use Rattle.vic_field.proofs.Words.{◌≡◌, ℕ, zero, suc, ◌<◌, ◌≤◌, true, false, List, [], ◌∷◌, take, Some, None, refl, sym, ap, ◌∙◌, arith, ⊎_elim, ◌≢◌, slice_get, false≢true, IsUid, has, Entry, Sent, Listed, FieldCycle, listed, IsPopulation, is_slot, line_count, false_from_ne_true, IsInOrder, is_empty, refusal, AreTyped, has_here, has_there, has_cases, without_slots, still_there, slice_get_within, drop, length-take, take-append-drop}

-- ---- which UIDs entries list

-- a listed UID has a position
pub position_of : (es : List Entry) (u : ℕ) → has (listed es) u ≡ true → (i : ℕ) × (slice_get es i ≡ Some (Listed u))
position_of [] u h = absurd (false≢true h)
position_of (Listed v ∷ es) u h = ⊎_elim (λ same. (0, ap (λ (w : ℕ). Some (Listed w)) (sym same))) (λ k. let w = position_of es u k in (suc w.0, w.1)) (has_cases u v (listed es) h)
position_of (e ∷ es) u h = let w = position_of es u h in (suc w.0, w.1)

-- no UID is listed twice
abbrev AreOnce : List Entry → Type 0
AreOnce es = (i j : ℕ) (u w : ℕ) → i < j → slice_get es i ≡ Some (Listed u) → slice_get es j ≡ Some (Listed w) → u ≢ w

once_rest : (e : Entry) (es : List Entry) → AreOnce (e ∷ es) → AreOnce es
once_rest e es h i j u w less a b = h (suc i) (suc j) u w (omega arith) a b

listed_different : (es : List Entry) → AreOnce es → ((u : ℕ) → has (listed es) u ≡ true → IsUid u) → IsPopulation (listed es)
listed_different [] once uids = tt
listed_different (Listed v ∷ es) once uids = (
  uids v (has_here v (listed es)),
  false_from_ne_true _ (λ h. let w = position_of es v h in once 0 (suc w.0) v v (omega arith) refl w.1 refl),
  listed_different es (once_rest (Listed v) es once) (λ u h. uids u (has_there u v (listed es) h)),
)
listed_different (e ∷ es) once uids = listed_different es (once_rest e es once) uids

-- the listed UIDs are a population
pub listed_population : (es : List Entry) → IsInOrder es → AreTyped es → IsPopulation (listed es)
listed_population es order typed = listed_different es order.once (λ u h. let w = position_of es u h in typed w.0 (Listed u) w.1)

-- slot lines list none
listed_kept : (es : List Entry) → listed (without_slots es) ≡ listed es
listed_kept [] = refl
listed_kept (Listed u ∷ es) = ap (λ (us : List ℕ). u ∷ us) (listed_kept es)
listed_kept (e ∷ es) = listed_kept es

-- ---- what may follow

-- a UID listed in the filled entries was listed before position i
listed_before : (given es : List Entry) (i u : ℕ) → without_slots es ≡ take i given → has (listed es) u ≡ true → (j : ℕ) × (j < i) × (slice_get given j ≡ Some (Listed u))
listed_before given es i u kept h =
    let w = position_of (take i given) u (ap (λ (xs : List Entry). has (listed xs) u) (sym kept) ∙ (ap (λ (us : List ℕ). has us u) (listed_kept es) ∙ h)) in
    let there = still_there (take i given) (drop i given) w.0 (Listed u) w.1 in
    (w.0, omega (arith, slice_get_within (take i given) w.0 (Listed u) w.1, length-take i given), rw take-append-drop at there)

none_listed : (us : List ℕ) → ((u : ℕ) → has us u ≡ true → ⊥) → is_empty us ≡ true
none_listed [] h = refl
none_listed (u ∷ us) h = absurd (h u (has_here u us))

-- what follows in the order of a log follows in the filled one
pub follows : (given es : List Entry) (i : ℕ) (e : Entry) → IsInOrder given → slice_get given i ≡ Some e → is_slot e ≡ false → without_slots es ≡ take i given → refusal es e ≡ None
follows given es i (Sent q) o at s kept =
    rw (none_listed (listed es) (λ u h. let w = listed_before given es i u kept h in o.requests_first w.0 i u q w.1 w.2 at)) refl
follows given es i FieldCycle o at s kept =
    rw (none_listed (listed es) (λ u h. let w = listed_before given es i u kept h in o.cycles_first w.0 i u w.1 w.2 at)) refl
follows given es i (Listed v) o at s kept =
    rw (false_from_ne_true _ (λ h. let w = listed_before given es i v kept h in o.once w.0 i v v w.1 w.2 at refl)) refl
follows given es i e o at s kept = absurd (cc)

-- ---- how many lines

pub line_count-front : (es : List Entry) (n : ℕ) → line_count (take n es) ≤ line_count es
line_count-front es zero = omega arith
line_count-front [] (suc n) = omega arith
line_count-front (e ∷ es) (suc n) = let h = line_count-front es n in omega arith
