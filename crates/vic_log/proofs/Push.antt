-- One entry more: what entries in order keep, and what a log keeps.
use Rattle.vic_log.proofs.Words.{◌≡◌, ℕ, zero, suc, ◌+◌, ◌-◌, ◌<◌, ◌≤◌, Bool, true, false, Some, None, List, [], ◌∷◌, ◌++◌, length, take, length-append, refl, sym, ap, subst, ◌∙◌, arith, slice_get, nat_lt, if◌then◌else◌, not, ◌||◌, nat_tests, map-append, length-map, Entry, Sent, Listed, FieldCycle, LogLine, has, Version, V1, V2, IsOfFirstVersion, IsOfSecondVersion, slots_left, is_slot, IsInOrder, entries, listed, AreValid, is_empty, refusal, last_from, IsValidEntry, IsTyped, numbered, IsRisingFrom, is_outside_round, is_after_list, is_duplicate, left_after, Keeps}
use Rattle.vic_log.specs.Log.{IsLog}
use Rattle.vic_log.proofs.Places.{last_or, AgreeBefore, opener_agrees, opener_below, agree_append, slice_get_last, agree_upto}
use Rattle.vic_log.proofs.Order.{in_round-slots_left}

-- ---- slots left

-- how many slots are left at a position is told by the entries before it
pub slots_left_agrees : (n : ℕ) (es fs : List Entry) → AgreeBefore n es fs → slots_left es n ≡ slots_left fs n
slots_left_agrees n es fs a = grind (arith, nat_tests, opener_agrees, opener_below)

left_by : (es fs : List Entry) (n : ℕ) → AgreeBefore n es fs → (e : Entry) → slice_get fs n ≡ Some e → slots_left fs (suc n) ≡ left_after (slots_left es n) e
left_by es fs n h e k = grind (arith, nat_tests, opener_agrees, opener_below)

-- the slots left behind the last entry
pub slots_left-push : (es : List Entry) (e : Entry) → slots_left (es ++ e ∷ []) (suc (length es)) ≡ left_after (slots_left es (length es)) e
slots_left-push es e = left_by es (es ++ e ∷ []) (length es) (agree_upto es (e ∷ []) (length es) (omega arith)) e (slice_get_last es e)

-- ---- listed UIDs

pub listed-append : (es fs : List Entry) → listed (es ++ fs) ≡ listed es ++ listed fs
listed-append [] fs = refl
listed-append (Listed u ∷ es) fs = ap (λ us. u ∷ us) (listed-append es fs)
listed-append (e ∷ es) fs = listed-append es fs

pub has-there : (es : List Entry) (i u : ℕ) → slice_get es i ≡ Some (Listed u) → has (listed es) u ≡ true
has-there [] i u k = cc
has-there (e ∷ es) zero u k = grind (arith, nat_tests)
has-there (e ∷ es) (suc i) u k = grind (arith, nat_tests, has-there es i u)

some_listed : (us : List ℕ) (u : ℕ) → has us u ≡ true → not (is_empty us) ≡ false → ⊥
some_listed us u h k = grind (arith, nat_tests)

empty-append : (us ws : List ℕ) → not (is_empty (us ++ ws)) ≡ (not (is_empty us) || not (is_empty ws))
empty-append us ws = grind (arith, nat_tests)

-- ---- order

-- no reason to refuse: none of the three holds
pub refusal_none : (es : List Entry) (e : Entry) → refusal es e ≡ None → (is_outside_round es e ≡ false) × (is_after_list es e ≡ false) × (is_duplicate es e ≡ false)
refusal_none es e h = grind arith

pub refusal_listed : (es : List Entry) (u : ℕ) → has (listed es) u ≡ false → refusal es (Listed u) ≡ None
refusal_listed es u h = rw h refl

pub lists_none : (e : Entry) → ((u : ℕ) → e ≡ Listed u → ⊥) → listed (e ∷ []) ≡ []
lists_none e h = grind (arith, nat_tests)

slot_has_left : (b : Bool) (left : ℕ) → b ≡ true → (if b then not (nat_lt 0 left) else false) ≡ false → 0 < left
slot_has_left b left h k = grind (arith, nat_tests)

-- a listed UID and an entry behind it in the list with one entry more: both were there, or that one is the last
listed_or : {P : Type 0} (es : List Entry) (e f : Entry) (i j u : ℕ) → i < j → slice_get (es ++ e ∷ []) i ≡ Some (Listed u) → slice_get (es ++ e ∷ []) j ≡ Some f
    → (slice_get es i ≡ Some (Listed u) → slice_get es j ≡ Some f → P) → (has (listed es) u ≡ true → e ≡ f → P) → P
listed_or es e f i j u lt a b before last = last_or es e f j b
    (λ below here. before (agree_append es (e ∷ []) i (omega arith) ∙ a) here)
    (λ same it. last (has-there es i u (agree_append es (e ∷ []) i (omega arith) ∙ a)) it)

-- entries in order with one more that nothing refuses are in order
pub IsInOrder-push : (es : List Entry) (e : Entry) → IsInOrder es → refusal es e ≡ None → IsInOrder (es ++ e ∷ [])
IsInOrder-push es e o h =
    let free = refusal_none es e h in
    let all = es ++ e ∷ [] in
    let left_is = λ (i : ℕ) (le : i ≤ length es). slots_left_agrees i es all (agree_upto es (e ∷ []) i le) in
    record {
      rounds = λ i f k s. (in_round-slots_left all i).1 (last_or es e f i k
          (λ below here. subst (λ n. 0 < n) (left_is i (omega arith)) ((in_round-slots_left es i).0 (o.rounds i f here s)))
          (λ same it. subst (λ n. 0 < n) (left_is i (omega arith)) (subst (λ j. 0 < slots_left es j) (sym same) (slot_has_left (is_slot e) (slots_left es (length es)) (ap is_slot it ∙ s) free.0))));
      requests_first = λ i j u q lt a b. listed_or es e (Sent q) i j u lt a b (o.requests_first i j u q lt)
          (λ some it. some_listed (listed es) u some (ap (is_after_list es) (sym it) ∙ free.1));
      cycles_first = λ i j u lt a b. listed_or es e FieldCycle i j u lt a b (o.cycles_first i j u lt)
          (λ some it. some_listed (listed es) u some (ap (is_after_list es) (sym it) ∙ free.1));
      once = λ i j u w lt a b d. listed_or es e (Listed w) i j u lt a b
          (λ here there. o.once i j u w lt here there d)
          (λ some it. let none : has (listed es) w ≡ false = ap (is_duplicate es) (sym it) ∙ free.2 in let same = ap (has (listed es)) d in cc);
    }

-- ---- numbers and requests

pub last_from-push : (n : ℕ) (ls : List LogLine) (l : LogLine) → last_from n (ls ++ l ∷ []) ≡ l.number
last_from-push n [] l = refl
last_from-push n (x ∷ ls) l = last_from-push x.number ls l

pub rising-push : (n : ℕ) (ls : List LogLine) (l : LogLine) → IsRisingFrom n ls → last_from n ls < l.number → IsRisingFrom n (ls ++ l ∷ [])
rising-push n [] l r h = (h, tt)
rising-push n (x ∷ ls) l r h = (r.0, rising-push x.number ls l r.1 h)

pub valid-push : (es : List Entry) (e : Entry) → AreValid es → IsValidEntry e → AreValid (es ++ e ∷ [])
valid-push es e v h i q k = last_or es e (Sent q) i k (λ below here. v i q here) (λ same it. subst IsValidEntry it h)

each-push : (P : Entry → Type 0) (es : List Entry) (e : Entry) → ((i : ℕ) (f : Entry) → slice_get es i ≡ Some f → P f) → P e → (i : ℕ) (f : Entry) → slice_get (es ++ e ∷ []) i ≡ Some f → P f
each-push P es e t h i f k = last_or es e f i k (λ below here. t i f here) (λ same it. subst P it h)

pub entries-push : (ls : List LogLine) (l : LogLine) → entries (ls ++ l ∷ []) ≡ entries ls ++ l.item ∷ []
entries-push ls l = map-append (λ (x : LogLine). x.item) ls (l ∷ [])

-- the entries of the lines to the next one
pub entries_next : (lines : List LogLine) (i : ℕ) (l : LogLine) → slice_get lines i ≡ Some l → entries (take (suc i) lines) ≡ entries (take i lines) ++ l.item ∷ []
entries_next [] i l k = absurd (cc)
entries_next (x ∷ lines) zero l k = let same : x ≡ l = cc in ap (λ (y : LogLine). y.item ∷ []) same
entries_next (x ∷ lines) (suc i) l k = ap (λ (es : List Entry). x.item ∷ es) (entries_next lines i l k)

pub last_from-last : (n : ℕ) (ls : List LogLine) (l : LogLine) → slice_get ls (length ls - 1) ≡ Some l → last_from n ls ≡ l.number
last_from-last n [] l k = cc
last_from-last n (x ∷ []) l k = let same : x ≡ l = cc in ap (λ (m : LogLine). m.number) same
last_from-last n (x ∷ y ∷ ls) l k =
    let place : length (x ∷ y ∷ ls) - 1 ≡ suc (length (y ∷ ls) - 1) = omega arith in
    last_from-last x.number (y ∷ ls) l (ap (slice_get (x ∷ y ∷ ls)) (sym place) ∙ k)

-- ---- what a log keeps

pub IsLog-push : (v : Version) (ls : List LogLine) (l : LogLine) → IsLog v ls → refusal (entries ls) l.item ≡ None → last_from 1 ls < l.number → l.number ≤ 1000000 → IsValidEntry l.item → IsTyped l.item → (v ≡ V1 → IsOfFirstVersion l.item) → (v ≡ V2 → IsOfSecondVersion l.item) → IsLog v (ls ++ l ∷ [])
IsLog-push v ls l g h above limit valid typed first second =
    grind (arith, nat_tests, entries-push, IsInOrder-push, rising-push, last_from-push, valid-push, each-push IsTyped, each-push IsOfFirstVersion, each-push IsOfSecondVersion)

pub Keeps-push : (v : Version) (ls : List LogLine) (l : LogLine) (listing further : Bool) (left rest : ℕ) → Keeps v ls listing left
    → refusal (entries ls) l.item ≡ None → last_from 1 ls < l.number → l.number ≤ 1000000 → IsValidEntry l.item → IsTyped l.item → (v ≡ V1 → IsOfFirstVersion l.item) → (v ≡ V2 → IsOfSecondVersion l.item)
    → further ≡ (listing || not (is_empty (listed (l.item ∷ [])))) → rest ≡ left_after left l.item
    → Keeps v (ls ++ l ∷ []) further rest
Keeps-push v ls l listing further left rest k h above limit valid typed first second f r =
    let es_long : length (entries ls) ≡ length ls = length-map ls (λ (x : LogLine). x.item) in
    let long : length (ls ++ l ∷ []) ≡ suc (length (entries ls)) = omega (arith, length-append ls (l ∷ [])) in
    record {
      is_log = IsLog-push v ls l k.is_log h above limit valid typed first second;
      listing_is = rw (entries-push ls l, listed-append, empty-append, f, k.listing_is) refl;
      left_is = rw (entries-push ls l, long, slots_left-push, r, k.left_is, es_long) refl;
    }

-- ---- how many lines a log has

pub rising_long : (n : ℕ) (ls : List LogLine) → IsRisingFrom n ls → n + length ls ≤ last_from n ls
rising_long n [] r = omega arith
rising_long n (l ∷ ls) r = let above = r.0 in let rest = rising_long l.number ls r.1 in omega arith

pub IsLog-long : (v : Version) (ls : List LogLine) → IsLog v ls → length (entries ls) ≤ 999999
IsLog-long v ls g = grind (arith, nat_tests, rising_long, length-map)

-- entries on numbered lines
pub entries-numbered : (n : ℕ) (es : List Entry) → entries (numbered n es) ≡ es
entries-numbered n [] = refl
entries-numbered n (e ∷ es) = ap (λ (fs : List Entry). e ∷ fs) (entries-numbered (suc n) es)
