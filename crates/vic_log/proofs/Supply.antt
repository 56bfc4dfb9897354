-- A population meets the slots where its members are open and it supplies what the slots ask for.
use Rattle.vic_log.proofs.Words.{◌≡◌, ℕ, List, [], ◌∷◌, Bool, true, refl, ⊎_elim, ◌≢◌, ◌↔◌, arith, nat_tests, eqb-true, leb-true, ltb-true, lt-ltb, and_parts, and_from, false≢true, both_ways, has, is_uid, IsUid, AreDifferent, IsPopulation, Reading, SomeReply, Slot, list_all, le-leb, may_be, allows, is_open, Asks, Supplies, SuppliesAll}
use Rattle.vic_log.proofs.Meeting.{ReadingFits, Meets, MeetsAll}
use Rattle.vic_log.proofs.Sets.{IsWithin, has_here, has_at, has_there, has_cases, has_filter, filter_has, AreDifferent-filter, AreDifferent-population, IsUid-member}

-- ---- one slot, by the tags that answer in it

only_member : (u x : ℕ) → has (x ∷ []) u ≡ true → u ≡ x
only_member u x h = ⊎_elim (λ e. e) (λ k. absurd (false≢true k)) (has_cases u x [] h)

two_differ : (x y : ℕ) (q : List ℕ) → AreDifferent (x ∷ y ∷ q) → x ≢ y
two_differ x y q d e = both_ways (has (y ∷ q) x) d.0 (has_at x y q e)

fits_allows : (r : Reading) (q : List ℕ) → ReadingFits r q → (u : ℕ) → has q u ≡ true → may_be r true u ≡ true
fits_allows r q h u k = grind (arith, nat_tests)

pub fits_asks : (r : Reading) (q : List ℕ) → AreDifferent q → ReadingFits r q → Asks r (has q)
fits_asks r [] d f = grind (arith, nat_tests)
fits_asks SomeReply (x ∷ []) d f = (x, has_here x [])
fits_asks r (x ∷ []) d f = grind (arith, nat_tests, has_at)
fits_asks r (x ∷ y ∷ q) d f = grind (arith, nat_tests, two_differ, has_here, has_there)

asks_fits : (r : Reading) (q : List ℕ) → AreDifferent q → ((u : ℕ) → has q u ≡ true → may_be r true u ≡ true) → Asks r (has q) → ReadingFits r q
asks_fits r [] d m a = grind (arith, nat_tests)
asks_fits r (x ∷ []) d m a = let may = m x (has_here x []) in grind (arith, nat_tests, eqb-true, only_member)
asks_fits r (x ∷ y ∷ q) d m a = grind (arith, nat_tests, eqb-true, has_here, has_there, two_differ)

-- ---- one slot, by the population

pub asks_within : (r : Reading) (s t : ℕ → Bool) → IsWithin s t → Asks r s → Asks r t
asks_within r s t h k = grind (arith, nat_tests)

allows_by : (r : Reading) (b : Bool) (u : ℕ) → (b ≡ true → may_be r true u ≡ true) → may_be r b u ≡ true
allows_by r b u h = grind (arith, nat_tests)

pub Meets-allows : (p : List ℕ) (s : Slot) → Meets p s → (u : ℕ) → has p u ≡ true → allows u s ≡ true
Meets-allows p s m u h = grind (arith, nat_tests, allows_by, fits_allows, filter_has, and_from)

pub Meets-supplies : (p : List ℕ) (s : Slot) → AreDifferent p → Meets p s → Supplies (has p) s
Meets-supplies p s d m =
    asks_within s.reading _ _ (has_filter s.answers p) (fits_asks s.reading _ (AreDifferent-filter s.answers p d) m)

pub Supplies-meets : (p : List ℕ) (s : Slot) → AreDifferent p → ((u : ℕ) → has p u ≡ true → allows u s ≡ true) → Supplies (has p) s → Meets p s
Supplies-meets p s d k a = grind (arith, nat_tests, asks_fits, AreDifferent-filter, and_parts, has_filter, asks_within, filter_has)

pub Supplies-within : (s t : ℕ → Bool) (x : Slot) → IsWithin s t → Supplies s x → Supplies t x
Supplies-within s t x k a = grind (arith, nat_tests)

-- ---- all slots

pub SuppliesAll-within : (s t : ℕ → Bool) (slots : List Slot) → IsWithin s t → SuppliesAll s slots → SuppliesAll t slots
SuppliesAll-within s t [] k a = tt
SuppliesAll-within s t (x ∷ slots) k a = (Supplies-within s t x k a.0, SuppliesAll-within s t slots k a.1)

MeetsAll-by : (p : List ℕ) (slots : List Slot) → AreDifferent p → MeetsAll p slots ↔ (((u : ℕ) → has p u ≡ true → list_all (allows u) slots ≡ true) × SuppliesAll (has p) slots)
MeetsAll-by p [] d = ((λ m. ((λ u h. refl), tt)), (λ k. tt))
MeetsAll-by p (s ∷ slots) d = grind (arith, nat_tests, Meets-allows, Meets-supplies, Supplies-meets, and_parts, and_from, MeetsAll-by p slots d)

pub is_uid_from : (u : ℕ) → IsUid u → is_uid u ≡ true
is_uid_from u h = and_from _ _ (le-leb _ _ h.0) (lt-ltb _ _ h.1)

pub IsUid-from : (u : ℕ) → is_uid u ≡ true → IsUid u
IsUid-from u h = let w = and_parts _ _ h in (leb-true _ _ w.0, ltb-true _ _ w.1)

-- a population meets all slots if and only if its members are open and it supplies what the slots require
pub MeetsAll-iff : (p : List ℕ) (slots : List Slot) → IsPopulation p → MeetsAll p slots ↔ (IsWithin (has p) (is_open slots) × SuppliesAll (has p) slots)
MeetsAll-iff p slots q = grind (arith, nat_tests, AreDifferent-population, and_from, is_uid_from, IsUid-member, MeetsAll-by, and_parts)
