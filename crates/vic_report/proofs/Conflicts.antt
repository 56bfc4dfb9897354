-- Slot lines that no population fits together: all up to the first impossible line; or one reply of a UID that is Quiet there.
use Rattle.vic_report.proofs.Words.{◌≡◌, ℕ, zero, suc, ◌<◌, ◌≤◌, ◌+◌, List, [], ◌∷◌, ◌++◌, length, get_or, Bool, true, false, cond, Some, refl, sym, ap, ◌∙◌, subst, arith, ⊎_elim, slice_get, nat_le, leb, None, Option, MatchOption, option_map, filter, cases_Bool, leb-true, leb-false, map-append, All-get_or, filter_passes, slice_get-map, slice_get_within, get_or_from_slice_get, has, Entry, Sent, Heard, Captured, Unknown, hears, tells, eqb-true, Listed, FieldCycle, LogLine, entries, IsRisingFrom, answerers_at, Fits, CouldHaveGiven, is_quiet, FitsLines, IsConflictAt, IsNoQuietReply, IsSilencedBefore, IsSilencedBy, IsTellingLine, IsPossible, entries_to, IsVerdict, IsStrictlyIncreasing, agree_upto, answerers_agree, CouldHaveGiven-front, slice_get-append, Impossible, cases_eq, true_from_ne_false, get_or_default, slice_get_read, cases_lt, inl, inr, IsNonDecreasingBy, IsPartitionPoint, All, AllPairs, AllPairs-filter, Equal, Greater, HoldsAt, Less, Lone, and_from, and_parts, answers_at, cond_both, false≢true, get_or-map, has_cases, has_here, has_there, le-leb, length-map, map, nat_cmp, nat_tests, not-true, ordering_index, outcome_of, ranked, silenced-quiet, silences, IsListOf, ◌&&◌}
use Rattle.vic_verdict.proofs.Listing.{number_above}

-- ---- the lines 1 to n

abbrev pub lines_to : ℕ → List LogLine → List LogLine
lines_to n lines = filter (λ l. nat_le l.number n) lines

abbrev lines_kept : ℕ → LogLine → List LogLine → Bool → List LogLine
lines_kept n l lines b = cond b (l ∷ lines_to n lines) (lines_to n lines)

none_before : (n k : ℕ) (lines : List LogLine) → n ≤ k → IsRisingFrom k lines → lines_to n lines ≡ []
none_before n k [] h r = refl
none_before n k (l ∷ lines) h r = grind (arith, r.0, none_before n l.number lines (let above = r.0 in omega arith) r.1)

-- they stand before all others
lines_front : (n k : ℕ) (lines : List LogLine) → IsRisingFrom k lines → (rest : List LogLine) × (lines_to n lines ++ rest ≡ lines)
lines_front n k [] r = ([], refl)
lines_front n k (l ∷ lines) r =
    ⊎_elim
    (λ within.
    let front = lines_front n l.number lines r.1 in
    (front.0, ap (λ b. lines_kept n l lines b ++ front.0) within ∙ ap (λ ls. l ∷ ls) front.1))
    (λ out.
    let above = leb-false l.number n out in
    (l ∷ lines, ap (λ b. lines_kept n l lines b ++ (l ∷ lines)) out ∙ ap (λ ls. ls ++ (l ∷ lines)) (none_before n l.number lines (omega arith) r.1)))
    (cases_Bool (leb l.number n))

-- so what a population makes of a position among them is what it makes of it among all
front_answerers : (lines : List LogLine) (n i : ℕ) (p : List ℕ) → IsRisingFrom 0 lines → i < length (entries_to n lines) → answerers_at (entries_to n lines) i p ≡ answerers_at (entries lines) i p
front_answerers lines n i p r within =
    let front = lines_to n lines in
    let rest = lines_front n 0 lines r in
    answerers_agree i (entries front) (entries front ++ entries rest.0) p (agree_upto (entries front) (entries rest.0) i (omega arith))
    ∙ ap (λ es. answerers_at es i p) (sym (map-append (λ (l : LogLine). l.item) front rest.0) ∙ ap entries rest.1)

-- the line of an entry
pub line_of : (lines : List LogLine) (i : ℕ) (e : Entry) → slice_get (entries lines) i ≡ Some e → (x : LogLine) × (slice_get lines i ≡ Some x) × (x.item ≡ e)
line_of [] i e k = cc
line_of (x ∷ lines) zero e k = (x, refl, cc)
line_of (x ∷ lines) (suc i) e k = line_of lines i e k

-- a line up to n stands among them, at its position
front_there : (n k : ℕ) (lines : List LogLine) (i : ℕ) (l : LogLine) → IsRisingFrom k lines → slice_get lines i ≡ Some l → l.number ≤ n → slice_get (lines_to n lines) i ≡ Some l
front_there n k [] i l r g small = cc
front_there n k (x ∷ lines) zero l r g small = grind arith
front_there n k (x ∷ lines) (suc i) l r g small = grind (arith, number_above x.number lines i l r.1 g, front_there n x.number lines i l r.1 g small)

number_within : (n : ℕ) (lines : List LogLine) (i : ℕ) (x : LogLine) → slice_get (lines_to n lines) i ≡ Some x → x.number ≤ n
number_within n lines i x k =
    let here = get_or_from_slice_get (lines_to n lines) i x x k in
    let passes = All-get_or (λ (l : LogLine). nat_le l.number n ≡ true) (lines_to n lines) i x (slice_get_within (lines_to n lines) i x k) (filter_passes (λ (l : LogLine). nat_le l.number n) lines) in
    leb-true x.number n (subst (λ (l : LogLine). nat_le l.number n ≡ true) here passes)

-- only slot lines that tell something have to fit
fits_if_told : (e : Entry) (us : List ℕ) → (tells e ≡ true → Fits e us) → Fits e us
fits_if_told (Sent q) us h = tt
fits_if_told (Listed u) us h = tt
fits_if_told FieldCycle us h = tt
fits_if_told Unknown us h = tt
fits_if_told _ us h = h refl

-- the numbers have all slot lines up to line n
abbrev HaveSlotsTo : List LogLine → ℕ → List ℕ → Type 0
HaveSlotsTo lines n numbers =
    (k : ℕ) (x : LogLine) → slice_get lines k ≡ Some x → x.number ≤ n → tells x.item ≡ true → has numbers x.number ≡ true

given_to : (lines : List LogLine) (n : ℕ) (numbers p : List ℕ) → IsRisingFrom 0 lines → HaveSlotsTo lines n numbers → FitsLines lines numbers p → CouldHaveGiven p (entries_to n lines)
given_to lines n numbers p r all fits i e k =
    let front = lines_to n lines in
    let rest = lines_front n 0 lines r in
    let x = line_of front i e k in
    let there : slice_get lines i ≡ Some x.0 = subst (λ ls. slice_get ls i ≡ Some x.0) rest.1 (sym (slice_get-append front rest.0 i (slice_get_within front i x.0 x.1)) ∙ x.1) in
    let same = front_answerers lines n i p r (slice_get_within (entries front) i e k) in
    fits_if_told e (answerers_at (entries front) i p) (λ slot.
    subst (Fits e) (sym same) (subst (λ f. Fits f (answerers_at (entries lines) i p)) x.2
    (fits i x.0 there (all i x.0 there (number_within n lines i x.0 x.1) (subst (λ f. tells f ≡ true) (sym x.2) slot)))))

below_last : (m n : ℕ) (xs : List ℕ) → m ≤ suc n → has xs m ≡ true → has xs (suc n) ≡ false → m ≤ n
below_last m n xs small here none = grind (arith, cases_eq m (suc n))

-- a population that could have produced the lines up to n fits each of them
pub fits_given : (lines : List LogLine) (n : ℕ) (p : List ℕ) (i : ℕ) (l : LogLine) → IsRisingFrom 0 lines → CouldHaveGiven p (entries_to n lines) → slice_get lines i ≡ Some l → l.number ≤ n → Fits l.item (answerers_at (entries lines) i p)
fits_given lines n p i l r given k small =
    let front = lines_to n lines in
    let there = slice_get-map (λ (x : LogLine). x.item) front i ∙ ap (option_map (λ (x : LogLine). x.item)) (front_there n 0 lines i l r k small) in
    subst (Fits l.item) (front_answerers lines n i p r (slice_get_within (entries front) i l.item there)) (given i l.item there)

-- the first impossible line is among the slot lines up to it
pub last_is_slot : (lines : List LogLine) (n : ℕ) (xs : List ℕ) → IsRisingFrom 0 lines → IsVerdict lines (Impossible n) → ((m : ℕ) → has xs m ≡ true → m ≤ n) → HaveSlotsTo lines n xs → has xs n ≡ true
last_is_slot lines zero xs r least upto all =
    absurd (least.0 (subst IsPossible (sym (ap entries (none_before 0 0 lines (omega arith) r))) ([], tt, λ i e k. cc)))
last_is_slot lines (suc n) xs r least upto all = true_from_ne_false (has xs (suc n)) (λ none.
    let possible_stays : IsPossible (entries_to n lines) → IsPossible (entries_to (suc n) lines) = λ q. (
      q.0,
      q.1,
      given_to lines (suc n) xs q.0 r all (λ i l k h.
          let small = upto l.number h in
          fits_given lines n q.0 i l r q.2 k (below_last l.number n xs small h none)),
    ) in
    let too_small = least.1 n (λ q. least.0 (possible_stays q)) in
    omega arith)

-- ---- the numbers of the slot lines up to n

numbers_rise : (k : ℕ) (lines : List LogLine) → IsRisingFrom k lines → AllPairs (λ (x y : LogLine). x.number < y.number) lines
numbers_rise k [] r i j d lt below = absurd (omega arith)
numbers_rise k (x ∷ lines) r i zero d lt below = absurd (omega arith)
numbers_rise k (x ∷ lines) r zero (suc j) d lt below =
    let within : j < length lines = omega arith in
    omega (arith, number_above x.number lines j (get_or lines j d) r.1 (slice_get_read lines (length lines) j (get_or lines j d) refl within (get_or_default lines j d (get_or lines j d) within)))
numbers_rise k (x ∷ lines) r (suc i) (suc j) d lt below = numbers_rise x.number lines r.1 i j d (omega arith) (omega arith)

abbrev pub is_slot_to : ℕ → LogLine → Bool
is_slot_to n l = nat_le l.number n && tells l.item

abbrev slots_to : ℕ → List LogLine → List LogLine
slots_to n lines = filter (is_slot_to n) lines

abbrev telling_numbers_to : ℕ → List LogLine → List ℕ
telling_numbers_to n lines = map (λ l. l.number) (slots_to n lines)

slots_rise : (n : ℕ) (lines : List LogLine) → IsRisingFrom 0 lines → IsStrictlyIncreasing (telling_numbers_to n lines)
slots_rise n lines r k within =
    let number = λ (l : LogLine). l.number in
    let slots = slots_to n lines in
    let d : LogLine = record { number = 0; item = FieldCycle } in
    let long = length-map slots number in
    let up = AllPairs-filter (λ (x y : LogLine). x.number < y.number) (is_slot_to n) lines (numbers_rise 0 lines r) k (k + 1) d (omega arith) (omega arith) in
    omega (arith, up, get_or-map number slots k d 0 (omega arith), get_or-map number slots (k + 1) d 0 (omega arith))

slot_behind : (n m : ℕ) (x : LogLine) (lines : List LogLine) → (m ≤ n) × IsTellingLine lines m → (m ≤ n) × IsTellingLine (x ∷ lines) m
slot_behind n m x lines w = (w.0, record { place = suc w.1.place; line = w.1.line; there = w.1.there; number = w.1.number; slot = w.1.slot })

slots_among : (n m : ℕ) (lines : List LogLine) → has (telling_numbers_to n lines) m ≡ true → (m ≤ n) × IsTellingLine lines m
slots_among n m [] h = absurd (false≢true h)
slots_among n m (x ∷ lines) h =
    let rest = slots_to n lines in
    let later = λ (t : has (telling_numbers_to n lines) m ≡ true). slot_behind n m x lines (slots_among n m lines t) in
    cond_both (is_slot_to n x) (x ∷ rest) rest (λ (ls : List LogLine). has (map (λ (l : LogLine). l.number) ls) m ≡ true → (m ≤ n) × IsTellingLine (x ∷ lines) m)
    (λ yes g.
    let w = and_parts (nat_le x.number n) (tells x.item) yes in
    let small = leb-true x.number n w.0 in
    ⊎_elim (λ e. (omega arith, record { place = 0; line = x; there = refl; number = sym e; slot = w.1 })) later (has_cases m x.number (telling_numbers_to n lines) g))
    (λ no g. later g) h

slots_all : (n : ℕ) (lines : List LogLine) → HaveSlotsTo lines n (telling_numbers_to n lines)
slots_all n [] k x g small slot = cc
slots_all n (y ∷ lines) zero x g small slot =
    let same : y ≡ x = cc in
    let rest = slots_to n lines in
    subst (λ (z : LogLine). has (telling_numbers_to n (z ∷ lines)) x.number ≡ true) (sym same)
    (cond_both (is_slot_to n x) (x ∷ rest) rest (λ (ls : List LogLine). has (map (λ (l : LogLine). l.number) ls) x.number ≡ true)
    (λ yes. has_here x.number (telling_numbers_to n lines))
    (λ no. absurd (false≢true (sym no ∙ and_from _ _ (le-leb x.number n small) slot))))
slots_all n (y ∷ lines) (suc k) x g small slot =
    let rest = slots_to n lines in
    let later = slots_all n lines k x g small slot in
    cond_both (is_slot_to n y) (y ∷ rest) rest (λ (ls : List LogLine). has (map (λ (l : LogLine). l.number) ls) x.number ≡ true)
    (λ yes. has_there x.number y.number (telling_numbers_to n lines) later) (λ no. later)

pub slots_to_line : (n : ℕ) (lines : List LogLine) → IsRisingFrom 0 lines → IsListOf (λ m. (m ≤ n) × IsTellingLine lines m) (telling_numbers_to n lines)
slots_to_line n lines r = record {
  rising = slots_rise n lines r;
  members = λ m. (
    slots_among n m lines,
    λ w. let all = slots_all n lines w.1.place w.1.line w.1.there (omega (arith, w.0, w.1.number)) w.1.slot in subst (λ k. has (telling_numbers_to n lines) k ≡ true) w.1.number all,
  );
}

-- all of them are a conflict, if n is the first impossible line
pub slots_conflict : (lines : List LogLine) (n : ℕ) (numbers : List ℕ) → IsRisingFrom 0 lines → IsVerdict lines (Impossible n) → IsListOf (λ m. (m ≤ n) × IsTellingLine lines m) numbers → IsConflictAt lines n numbers
slots_conflict lines n numbers r least slots =
    let all : HaveSlotsTo lines n numbers = λ k x there small slot. (slots.members x.number).1 (small, record { place = k; line = x; there = there; number = refl; slot = slot }) in
    record {
      rising = slots.rising;
      ends = last_is_slot lines n numbers r least (λ m h. ((slots.members m).0 h).0) all;
      upto = λ m h. ((slots.members m).0 h).0;
      slots = λ m h. ((slots.members m).0 h).1;
      unfit = λ p population fits. least.0 (p, population, given_to lines n numbers p r all fits);
    }

-- ---- the line with a number

-- is at one position
same_place : (k : ℕ) (lines : List LogLine) (i j : ℕ) (l x : LogLine) → IsRisingFrom k lines → slice_get lines i ≡ Some l → slice_get lines j ≡ Some x → l.number ≡ x.number → i ≡ j
same_place k [] i j l x r g h e = cc
same_place k (y ∷ lines) zero zero l x r g h e = refl
same_place k (y ∷ lines) zero (suc j) l x r g h e = grind (arith, number_above y.number lines j x r.1 h)
same_place k (y ∷ lines) (suc i) zero l x r g h e = grind (arith, number_above y.number lines i l r.1 g)
same_place k (y ∷ lines) (suc i) (suc j) l x r g h e = ap suc (same_place y.number lines i j l x r.1 g h e)

rising_lines : (lines : List LogLine) → IsRisingFrom 0 lines → IsNonDecreasingBy (λ (l : LogLine). l.number) lines
rising_lines lines r i j d le below = elim (cases_lt i j) [
  | inl lt ↦ omega (arith, numbers_rise 0 lines r i j d lt below)
  | inr ge ↦ let same : i ≡ j = omega arith in omega (arith, ap (λ k. (get_or lines k d).number) same)
]

-- what a search for the number finds
pub found_number : (lines : List LogLine) (n i : ℕ) (l : LogLine) → HoldsAt (λ (x : LogLine). nat_cmp x.number n ≡ Equal) lines i → slice_get lines i ≡ Some l → l.number ≡ n
found_number lines n i l found k =
    ap (λ (x : LogLine). x.number) (sym (get_or_from_slice_get lines i l l k)) ∙ ranked (get_or lines i l).number n Equal (sym (found l))

-- and what it doesn't, no line has
pub no_number : (lines : List LogLine) (n place : ℕ) → (IsNonDecreasingBy (λ (x : LogLine). ordering_index (nat_cmp x.number n)) lines → IsPartitionPoint (λ (x : LogLine). nat_cmp x.number n ≡ Less) (λ (x : LogLine). nat_cmp x.number n ≡ Greater) lines place) → IsRisingFrom 0 lines → (i : ℕ) (l : LogLine) → slice_get lines i ≡ Some l → l.number ≡ n → ⊥
no_number lines n place point rising i l k e =
    let halves = point (λ a b d le below. let up = rising_lines lines rising a b d le below in grind (arith, nat_tests)) in
    let within = slice_get_within lines i l k in
    let number = ap (λ (x : LogLine). x.number) (get_or_from_slice_get lines i l l k) in
    elim (cases_lt i place) [
      | inl before ↦ absurd (omega (arith, number, ranked (get_or lines i l).number n Less (sym (halves.0 i l (omega arith) before))))
      | inr after ↦ absurd (omega (arith, number, ranked (get_or lines i l).number n Greater (sym (halves.1 i l after within))))
    ]

hears_there : (lines : List LogLine) (i u : ℕ) (l : LogLine) → slice_get lines i ≡ Some l → hears (slice_get (entries lines) i) u ≡ hears (Some l.item) u
hears_there lines i u l k = ap (λ o. hears o u) (slice_get-map (λ (x : LogLine). x.item) lines i ∙ ap (option_map (λ (x : LogLine). x.item)) k)

-- so what is known of that position is known of the number
pub silenced_there : (lines : List LogLine) (n i : ℕ) (l : LogLine) (o : Option ℕ) → IsRisingFrom 0 lines → slice_get lines i ≡ Some l → l.number ≡ n
    → MatchOption o ((u : ℕ) → hears (slice_get (entries lines) i) u ≡ true → is_quiet (entries lines) i u ≡ false) (λ m. (u : ℕ) × (hears (slice_get (entries lines) i) u ≡ true) × IsSilencedBefore lines i u m)
    → MatchOption o (IsNoQuietReply lines n) (IsSilencedBy lines n)
silenced_there lines n i l None rising k here none = λ j x u g number heard.
    let same : j ≡ i = same_place 0 lines j i x l rising g k (number ∙ sym here) in
    subst (λ p. is_quiet (entries lines) p u ≡ false) (sym same) (none u (subst (λ p. hears (slice_get (entries lines) p) u ≡ true) same (hears_there lines j u x g ∙ heard)))
silenced_there lines n i l (Some m) rising k here some = record {
  place = i;
  line = l;
  uid = some.0;
  there = k;
  number = here;
  reply = sym (hears_there lines i some.0 l k) ∙ some.1;
  by = some.2;
}

-- ---- a reply of a UID that is Quiet there

quiet_before : (lines : List LogLine) (i u n : ℕ) → IsSilencedBefore lines i u n → is_quiet (entries lines) i u ≡ true
quiet_before lines i u n s =
    let there = slice_get-map (λ (x : LogLine). x.item) lines s.place ∙ ap (option_map (λ (x : LogLine). x.item)) s.there in
    silenced-quiet (entries lines) i u (s.place, s.before, ap (λ o. silences o u) there ∙ s.stay_quiet, s.powered)

lone_passes : (test : ℕ → Bool) (us : List ℕ) (u : ℕ) → All (λ v. test v ≡ true) us → outcome_of us ≡ Lone u → test u ≡ true
lone_passes test [] u all lone = cc
lone_passes test (v ∷ []) u all lone = let same : v ≡ u = cc in subst (λ w. test w ≡ true) same (all 0 v (omega arith))
lone_passes test (v ∷ w ∷ us) u all lone = cc

member_passes : (test : ℕ → Bool) (us : List ℕ) (u : ℕ) → All (λ v. test v ≡ true) us → has us u ≡ true → test u ≡ true
member_passes test [] u all h = absurd (false≢true h)
member_passes test (v ∷ us) u all h = ⊎_elim (λ e. subst (λ w. test w ≡ true) (sym e) (all 0 v (omega arith))) (λ k. member_passes test us u (λ i d below. all (suc i) d (omega (arith, below))) k) (has_cases u v us h)

-- a reply's UID is one of those that answer, and so passes what they pass
reply_passes : (test : ℕ → Bool) (e : Entry) (us : List ℕ) (u : ℕ) → All (λ v. test v ≡ true) us → hears (Some e) u ≡ true → Fits e us → test u ≡ true
reply_passes test (Heard r) us u all heard fits = lone_passes test us u all (fits ∙ ap Lone (eqb-true r.uid u heard))
reply_passes test (Captured r) us u all heard fits = member_passes test us u all (subst (λ v. has us v ≡ true) (eqb-true r.uid u heard) fits)
reply_passes test e us u all heard fits = absurd (false≢true heard)

reply_tells : (e : Entry) (u : ℕ) → hears (Some e) u ≡ true → tells e ≡ true
reply_tells (Heard r) u h = refl
reply_tells (Captured r) u h = refl
reply_tells e u h = absurd (false≢true h)

alone : (m n : ℕ) → has (n ∷ []) m ≡ true → m ≡ n
alone m n h = ⊎_elim (λ e. e) (λ none. absurd (false≢true none)) (has_cases m n [] h)

-- is a conflict by itself
pub quiet_reply_conflict : (lines : List LogLine) (n silencer : ℕ) → IsSilencedBy lines n silencer → IsConflictAt lines n (n ∷ [])
quiet_reply_conflict lines n silencer s =
    let es = entries lines in
    let here = has_here n [] in
    record {
      rising = λ k below. absurd (omega arith);
      ends = here;
      upto = λ m h. omega (arith, alone m n h);
      slots = λ m h. record { place = s.place; line = s.line; there = s.there; number = s.number ∙ sym (alone m n h); slot = reply_tells s.line.item s.uid s.reply };
      unfit = λ p population fits.
          let answers = reply_passes (answers_at es s.place) s.line.item (filter (answers_at es s.place) p) s.uid (filter_passes (answers_at es s.place) p) s.reply (fits s.place s.line s.there (rw s.number here)) in
          let ready = not-true _ (and_parts _ _ answers).1 in
          false≢true (sym ready ∙ quiet_before lines s.place s.uid silencer s.by);
    }

-- ---- more lines

-- a population that could have produced more lines fits each of the first
pub stays_unfit : (lines more : List LogLine) (n : ℕ) (numbers : List ℕ) → IsConflictAt lines n numbers → IsPossible (entries (lines ++ more)) → ⊥
stays_unfit lines more n numbers conflict possible =
    let p = possible.0 in
    let given = CouldHaveGiven-front p (entries lines) (entries more) (subst (CouldHaveGiven p) (map-append (λ (l : LogLine). l.item) lines more) possible.2) in
    conflict.unfit p possible.1 (λ i l k h. given i l.item (slice_get-map (λ (x : LogLine). x.item) lines i ∙ ap (option_map (λ (x : LogLine). x.item)) k))
