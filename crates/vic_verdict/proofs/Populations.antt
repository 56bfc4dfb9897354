-- Which slots are possible, and which UIDs are possible and certain.
use Rattle.vic_verdict.proofs.Words.{◌≡◌, ℕ, zero, suc, ◌<◌, ◌*◌, ◌^◌, List, [], ◌∷◌, Bool, true, not, ◌&&◌, sym, ◌∙◌, subst, arith, inl, inr, ⊎_elim, ◌⊎◌, ◌≢◌, ◌↔◌, ◌==◌, and_parts, and_thrice, cases_eq, cases_Bool, nat_tests, false≢true, both_ways, has, is_uid, IsUid, IsPopulation, Reading, NoReply, OneReply, ManyReplies, SomeReply, ReplyAmong, Slot, is_open, Asks, SuppliesAll, Forces, IsForcedBy, IsWithin, MeetsAll-iff, IsUid-from, has_with_member, with_member, with_member_keeps, with_member_cases, IsPopulation-with_member, SuppliesAll-within, MeetsAll}
use Rattle.vic_verdict.proofs.Search.{Either, test_either, and_either, some_either}

-- a population meets every slot
abbrev pub ArePossible : List Slot → Type 0
ArePossible slots = (p : List ℕ) × IsPopulation p × MeetsAll p slots

-- every population that meets every slot has the UID
abbrev pub MustHave : List Slot → ℕ → Type 0
MustHave slots u = (p : List ℕ) → IsPopulation p → MeetsAll p slots → has p u ≡ true

-- ---- a population within a set

-- every UID is below this
pub uid_end : ℕ
uid_end = 0xE1 * 2 ^ 56

pub uid_below : (u : ℕ) → IsUid u → u < uid_end
unfolding uid_end
uid_below u i = i.1

pub is_open-is_uid : (slots : List Slot) → IsWithin (is_open slots) is_uid
is_open-is_uid slots u h = (and_parts _ _ h).0

pub open_below : (slots : List Slot) (u : ℕ) → is_open slots u ≡ true → u < uid_end
open_below slots u h = uid_below u (IsUid-from u (is_open-is_uid slots u h))

-- the UIDs of a set that are below n are a population
those_below : (set : ℕ → Bool) (n : ℕ) → IsWithin set is_uid → (p : List ℕ) × IsPopulation p × IsWithin (has p) set × ((u : ℕ) → u < n → set u ≡ true → has p u ≡ true)
those_below set zero uids = ([], tt, (λ u h. absurd (false≢true h)), (λ u lt h. absurd (omega arith)))
those_below set (suc n) uids =
    let r = those_below set n uids in
    elim (cases_Bool (set n)) [
      | inl member ↦ (
        with_member n r.0,
        IsPopulation-with_member n r.0 (IsUid-from n (uids n member)) r.1,
        (λ u h. elim (with_member_cases n r.0 u h) [ inl e ↦ rw e member | inr old ↦ r.2 u old ]),
        (λ u lt h. elim (cases_eq u n) [ inl e ↦ rw e (has_with_member n r.0) | inr ne ↦ with_member_keeps n r.0 u (r.3 u (omega arith) h) ]),
      )
      | inr other ↦ (r.0, r.1, r.2, λ u lt h. r.3 u (let ne : u ≢ n = λ e. both_ways _ other (rw e at h) in omega arith) h)
    ]

-- a set of open UIDs that has what the slots ask for has a population that meets them
pub population_within : (set : ℕ → Bool) (slots : List Slot) → IsWithin set (is_open slots) → SuppliesAll set slots → (p : List ℕ) × IsPopulation p × MeetsAll p slots × IsWithin (has p) set
population_within set slots k a =
    let r = those_below set uid_end (λ u h. is_open-is_uid slots u (k u h)) in
    let all = SuppliesAll-within set (has r.0) slots (λ u h. r.3 u (open_below slots u (k u h)) h) a in
    (r.0, r.1, (MeetsAll-iff r.0 slots r.1).1 ((λ u h. k u (r.2 u h)), all), r.2)

-- ---- possible slots

pub ArePossible-iff : (slots : List Slot) → ArePossible slots ↔ SuppliesAll (is_open slots) slots
ArePossible-iff slots = grind (arith, MeetsAll-iff, SuppliesAll-within, population_within (is_open slots) slots)

-- ---- possible UIDs

-- an open UID may be added
pub MeetsAll-with_member : (p : List ℕ) (slots : List Slot) (u : ℕ) → IsPopulation p → MeetsAll p slots → is_open slots u ≡ true → IsPopulation (with_member u p) × MeetsAll (with_member u p) slots
MeetsAll-with_member p slots u i m h =
    let w = (MeetsAll-iff p slots i).0 m in
    let population = IsPopulation-with_member u p (IsUid-from u (is_open-is_uid slots u h)) i in
    let within : IsWithin (has (with_member u p)) (is_open slots) = λ v k. elim (with_member_cases u p v k) [ inl e ↦ rw e h | inr old ↦ w.0 v old ] in
    (population, (MeetsAll-iff (with_member u p) slots population).1 (within, SuppliesAll-within (has p) _ slots (with_member_keeps u p) w.1))

-- ---- certain UIDs

-- a set without a UID
abbrev pub without : ℕ → (ℕ → Bool) → ℕ → Bool
without u set w = not (w == u) && set w

without_from : (u : ℕ) (set : ℕ → Bool) (w : ℕ) → set w ≡ true → w ≢ u → without u set w ≡ true
without_from u set w h ne = grind (arith, nat_tests)

without_parts : (u : ℕ) (set : ℕ → Bool) (w : ℕ) → without u set w ≡ true → (set w ≡ true) × (w ≢ u)
without_parts u set w h = grind (arith, nat_tests)

some_needed : (t : ℕ → Bool) (n : ℕ) → ((w : ℕ) → t w ≡ true → w < n) → Either (Asks SomeReply t)
some_needed t n b = some_either (λ u. t u ≡ true) (λ u. test_either (t u)) n b

-- whether a slot has what it asks for
pub asks_either : (r : Reading) (t : ℕ → Bool) (n : ℕ) → ((w : ℕ) → t w ≡ true → w < n) → Either (Asks r t)
asks_either NoReply t n b = inl tt
asks_either (OneReply h) t n b = test_either (t h)
asks_either SomeReply t n b = some_needed t n b
asks_either (ReplyAmong h) t n b = test_either (t h)
asks_either ManyReplies t n b =
    let other = λ (u : ℕ). some_needed (without u t) n (λ w h. b w (without_parts u t w h).0) in
    elim (some_either (λ u. (t u ≡ true) × Asks SomeReply (without u t)) (λ u. and_either (test_either (t u)) (other u)) n (λ u h. b u h.0)) [
      | inl w ↦ let x = without_parts w.0 t w.1.1.0 w.1.1.1 in inl (w.1.1.0, w.0, x.1, x.0, w.1.0)
      | inr none ↦ inr (λ h. none (h.0, (h.3, (h.1, without_from h.0 t h.1 h.4 (λ e. h.2 (sym e))))))
    ]

-- of two that answer one is the UID, where there aren't two without it
one_of_two : (t : ℕ → Bool) (u : ℕ) → (Asks ManyReplies (without u t) → ⊥) → (v w : ℕ) → v ≢ w → t v ≡ true → t w ≡ true → (v ≡ u) ⊎ (w ≡ u)
one_of_two t u few v w differ hv hw =
    let none = λ (a : without u t v ≡ true) (b : without u t w ≡ true). few (v, w, differ, a, b) in
    grind (arith, nat_tests)

two_force : (t : ℕ → Bool) (u v : ℕ) → (Asks ManyReplies (without u t) → ⊥) → v ≢ u → t u ≡ true → t v ≡ true → Forces ManyReplies t u
two_force t u v few ne hu hv = (v, ne, hu, hv, λ w h. grind (arith, nat_tests, one_of_two t u few w v))

-- a slot that has what it asks for, but not without the UID, tells that the UID is there
tells : (r : Reading) (t : ℕ → Bool) (u : ℕ) → Asks r t → (Asks r (without u t) → ⊥) → Forces r t u
tells NoReply t u a few = few tt
tells (OneReply h) t u a few = ⊎_elim (λ e. e) (λ ne. absurd (few (without_from u t h a ne))) (cases_eq h u)
tells (ReplyAmong h) t u a few = ⊎_elim (λ e. e) (λ ne. absurd (few (without_from u t h a ne))) (cases_eq h u)
tells ManyReplies t u a few = elim (one_of_two t u few a.0 a.1 a.2 a.3 a.4) [
  | inl e ↦ two_force t u a.1 few (λ k. a.2 (e ∙ sym k)) (rw e at a.3) a.4
  | inr e ↦ two_force t u a.0 few (λ k. a.2 (k ∙ sym e)) (rw e at a.4) a.3
]
tells SomeReply t u a few = let none = λ (w : ℕ) (h : without u t w ≡ true). few (w, h) in grind (arith, nat_tests)

-- where a slot tells that the UID is there, each set that has what it asks for has the UID
pub forced : (r : Reading) (s t : ℕ → Bool) (u : ℕ) → Forces r t u → IsWithin s t → Asks r s → s u ≡ true
forced r s t u f k a = grind (arith, nat_tests)

forced_by : (set members : ℕ → Bool) (slots : List Slot) (u : ℕ) → IsForcedBy set slots u → IsWithin members set → SuppliesAll members slots → members u ≡ true
forced_by set members [] u f k a = absurd f
forced_by set members (s ∷ slots) u f k a =
    grind (arith, nat_tests, forced s.reading (λ w. members w && s.answers w) (λ w. set w && s.answers w) u, forced_by set members slots u)

-- the slots have what they ask for without the UID, or one tells that it is there
spare_all : (set : ℕ → Bool) (slots : List Slot) (n : ℕ) → ((w : ℕ) → set w ≡ true → w < n) → (u : ℕ) → SuppliesAll set slots → SuppliesAll (without u set) slots ⊎ IsForcedBy set slots u
spare_all set [] n b u a = inl tt
spare_all set (s ∷ slots) n b u a =
    let here = λ (w : ℕ). set w && s.answers w in
    elim (asks_either s.reading (without u here) n (λ w h. b w (and_parts _ _ (without_parts u here w h).0).0)) [
      | inl asked ↦
          let asked' = subst (Asks s.reading) (λ i w. sym (and_thrice (not (w == u)) (set w) (s.answers w)) i) asked in
          ⊎_elim (λ rest. inl (asked', rest)) (λ f. inr (inr f)) (spare_all set slots n b u a.1)
      | inr few ↦ inr (inl (tells s.reading here u a.0 few))
    ]

-- where a UID isn't told of, there is a population without it
pub population_without : (slots : List Slot) (u : ℕ) → SuppliesAll (without u (is_open slots)) slots → (p : List ℕ) × IsPopulation p × MeetsAll p slots × (has p u ≡ true → ⊥)
population_without slots u a = grind (arith, nat_tests, population_within (without u (is_open slots)) slots)

pub MustHave-cases : (slots : List Slot) (u : ℕ) → ArePossible slots → SuppliesAll (without u (is_open slots)) slots ⊎ IsForcedBy (is_open slots) slots u
MustHave-cases slots u p = spare_all (is_open slots) slots uid_end (open_below slots) u ((ArePossible-iff slots).0 p)

pub MustHave-iff : (slots : List Slot) (u : ℕ) → ArePossible slots → MustHave slots u ↔ IsForcedBy (is_open slots) slots u
MustHave-iff slots u p = grind (arith, MustHave-cases slots u p, population_without slots u, MeetsAll-iff, forced_by)
