-- A small population, gathered from what the slots of a possible log ask for.
use Rattle.vic_verdict.proofs.Words.{take-append-drop, drop, ◌≡◌, ℕ, suc, ◌+◌, ◌<◌, ◌≤◌, List, [], ◌∷◌, ◌++◌, length, take, get_or, Bool, true, false, ◌||◌, Option, Some, refl, sym, ap, ◌∙◌, subst, arith, nat_tests, inl, inr, ⊎_elim, length-append, ◌⊎◌, nat_eq, slice_get, filter, sum_by, ne_eqb, length-take, IsStrictlyIncreasing, both_ways, and_parts, and_from, or_cases, or_left, or_right, list_any, list_any_at, list_any_none, list_any-append, Any-from_list_any, slice_get_within, IsUid, has, AreDifferent, Entry, Collision, Heard, Captured, Garbled, eq-eqb, IsPopulation, answers_at, Reading, ManyReplies, SomeReply, reading_of, slots_of, is_open, Asks, IsWithin, AreDifferent-population, AreDifferent-filter, has_filter, has_here, has_at, has_there, MeetsAll-iff, IsUid-from, CouldHaveGiven-slots, Answering, Met, AreFound, IsFound, IsMet, UpToThree, is_other, chosen, chosen_population, answering, IsPossible, IsPossibleUid, IsCertainUid, SameMembers, AllPairs-from_increasing, sum_by-cons, AllByRecursion, IsDistinct, or_parts, nat_eq_equiv, IsDistinct-cons, IsDistinct-from_apart, length-le_from_is_member, asks_within, flat_map, needs_at, needs_of, IsSmallPopulation}
use Rattle.vic_verdict.specs.Explained.{AreFew}
use Rattle.vic_verdict.proofs.Decide.{IsPossibleUid-iff, supplied_each}
use Rattle.vic_verdict.proofs.Entries.{EntryAsks, EntryForces, SuppliesBefore, SuppliesAll-places, forces_two_iff, forces_one_iff, needs_two_or_one}
use Rattle.vic_verdict.proofs.Populations.{is_open-is_uid}
use Rattle.vic_verdict.proofs.Possibility.{heard_certain}
use Rattle.vic_verdict.proofs.Walking.{enough_found}

-- ---- rising lists of UIDs are populations

rising_tail : (x : ℕ) (us : List ℕ) → IsStrictlyIncreasing (x ∷ us) → IsStrictlyIncreasing us
rising_tail x us r k h = grind (arith, r (suc k))

rising_first : (x : ℕ) (us : List ℕ) → IsStrictlyIncreasing (x ∷ us) → has us x ≡ false
rising_first x us r = list_any_none (nat_eq x) us (λ k d lt.
    let up : x < get_or us k d = AllPairs-from_increasing (x ∷ us) r 0 (suc k) d (omega arith) (omega arith) in
    ne_eqb x (get_or us k d) (omega arith))

rising_population : (us : List ℕ) → IsStrictlyIncreasing us → ((u : ℕ) → has us u ≡ true → IsUid u) → IsPopulation us
rising_population [] r i = tt
rising_population (x ∷ us) r i =
    (i x (has_here x us), rising_first x us r, rising_population us (rising_tail x us r) (λ u h. i u (has_there u x us h)))

-- ---- different members of a list are no more than the list

apart : (x : ℕ) (xs : List ℕ) → has xs x ≡ false → AllByRecursion (λ y. nat_eq x y ≡ false) xs
apart x [] e = tt
apart x (y ∷ ys) e = let w = or_parts (nat_eq x y) (has ys x) e in (w.0, apart x ys w.1)

distinct : (xs : List ℕ) → AreDifferent xs → IsDistinct nat_eq xs
distinct [] d = IsDistinct-from_apart nat_eq [] (λ i j e lt below. absurd (omega arith))
distinct (x ∷ xs) d = IsDistinct-cons nat_eq x xs (apart x xs d.0) (distinct xs d.1)

pub no_more : (xs ys : List ℕ) → AreDifferent xs → IsWithin (has xs) (has ys) → length xs ≤ length ys
no_more xs ys d w = length-le_from_is_member nat_eq_equiv xs ys (distinct xs d) w

-- ---- what is chosen

append_cases : (xs ys : List ℕ) (u : ℕ) → has (xs ++ ys) u ≡ true → (has xs u ≡ true) ⊎ (has ys u ≡ true)
append_cases xs ys u h = or_cases (has xs u) (has ys u) (sym (list_any-append (nat_eq u) xs ys) ∙ h)

append_left : (xs ys : List ℕ) (u : ℕ) → has xs u ≡ true → has (xs ++ ys) u ≡ true
append_left xs ys u h = list_any-append (nat_eq u) xs ys ∙ or_left _ _ h

pub append_right : (xs ys : List ℕ) (u : ℕ) → has ys u ≡ true → has (xs ++ ys) u ≡ true
append_right xs ys u h = list_any-append (nat_eq u) xs ys ∙ or_right _ _ h

pub has_take : (n : ℕ) (xs : List ℕ) (u : ℕ) → has (take n xs) u ≡ true → has xs u ≡ true
has_take n xs u h = ap (λ ys. has ys u) (sym (take-append-drop n xs)) ∙ append_left (take n xs) (drop n xs) u h

chosen_parts : (avoid : Option ℕ) (f : Answering) (u : ℕ) → has (chosen avoid f) u ≡ true → (has f.uids.items u ≡ true) × (is_other avoid u ≡ true)
chosen_parts avoid f u h =
    and_parts _ _ (has_filter (is_other avoid) f.uids.items u (has_take f.need (filter (is_other avoid) f.uids.items) u h))

-- each of all that are chosen is chosen of one that was found
has-flat_map : (avoid : Option ℕ) (fs : List Answering) (u : ℕ) → has (flat_map (chosen avoid) fs) u ≡ list_any (λ f. has (chosen avoid f) u) fs
has-flat_map avoid [] u = refl
has-flat_map avoid (f ∷ fs) u = list_any-append (nat_eq u) (chosen avoid f) (flat_map (chosen avoid) fs) ∙ ap (λ b. has (chosen avoid f) u || b) (has-flat_map avoid fs u)

-- no more than are needed
few_chosen : (avoid : Option ℕ) (fs : List Answering) → length (flat_map (chosen avoid) fs) ≤ sum_by (λ (f : Answering). f.need) fs
few_chosen avoid [] = omega arith
few_chosen avoid (f ∷ fs) = grind (arith, length-append, length-take, sum_by-cons (λ (g : Answering). g.need) f fs, few_chosen avoid fs)

-- of different UIDs all are others, or all but the one to avoid
most_are_others : (avoid : Option ℕ) (xs : List ℕ) → AreDifferent xs → (length xs ≤ length (filter (is_other avoid) xs)) ⊎ ((a : ℕ) × (avoid ≡ Some a) × (has xs a ≡ true) × (length xs ≤ length (filter (is_other avoid) xs) + 1))
most_are_others avoid [] d = inl (omega arith)
most_are_others avoid (x ∷ xs) d = grind (arith, nat_tests, most_are_others avoid xs d.1)

pub two_of : (xs : List ℕ) → AreDifferent xs → 2 ≤ length xs → Asks ManyReplies (has (take 2 xs))
two_of (x ∷ y ∷ xs) d h =
    (x, y, (λ e. both_ways _ d.0 (has_at x y xs e)), has_here x (y ∷ []), has_there y x (y ∷ []) (has_here y []))
two_of xs d h = absurd (omega arith)

pub one_of : (xs : List ℕ) → 1 ≤ length xs → Asks SomeReply (has (take 1 xs))
one_of [] h = absurd (omega arith)
one_of (x ∷ xs) h = (x, has_here x [])

-- ---- who is certain

-- the members of a set answer where those of a larger one do
answering_within : (s t : ℕ → Bool) (es : List Entry) (i : ℕ) → IsWithin s t → IsWithin (answering s es i) (answering t es i)
answering_within s t es i w u h = let x = and_parts (s u) (answers_at es i u) h in and_from _ _ (w u x.0) x.1

forced_entry : (o : Option Reading) (s t : ℕ → Bool) (u : ℕ) → EntryForces o t u → IsWithin s t → EntryAsks o s → s u ≡ true
forced_entry o s t u f w a = grind (arith, nat_tests)

-- the UID that a slot line shows to be there is certain
certain_there : (es : List Entry) (i : ℕ) (e : Entry) (u : ℕ) → slice_get es i ≡ Some e → EntryForces (reading_of e) (answering (is_open (slots_of es)) es i) u → IsCertainUid es u
certain_there es i e u k f p population could =
    let w = (MeetsAll-iff p (slots_of es) population).0 ((CouldHaveGiven-slots p es).0 could) in
    let asks = (SuppliesAll-places (has p) es (length es)).0 w.1 i e (slice_get_within es i e k) k in
    (and_parts _ _ (forced_entry (reading_of e) _ _ u f (answering_within (has p) (is_open (slots_of es)) es i w.0) asks)).0

-- a UID that isn't certain is to be avoided, if any
abbrev pub AvoidsNoneCertain : List Entry → Option ℕ → Type 0
AvoidsNoneCertain es avoid = (a : ℕ) → avoid ≡ Some a → IsCertainUid es a → ⊥

-- exactly as many as are needed are forced there
pub exact_forces : (es : List Entry) (u : ℕ) (f : Answering) → IsFound es f → length f.uids.items ≡ f.need → has f.uids.items u ≡ true → (e : Entry) × (slice_get es f.at ≡ Some e) × EntryForces (reading_of e) (answering (is_open (slots_of es)) es f.at) u
exact_forces es u f h long m = grind (arith, needs_two_or_one (slice_get es f.at) f.need h.need h.needed, forces_two_iff _ f.uids.items u h.uids, forces_one_iff _ f.uids.items u h.uids)

-- so there are enough others
enough_others : (es : List Entry) (f : Answering) (avoid : Option ℕ) → AvoidsNoneCertain es avoid → IsFound es f → f.need ≤ length (filter (is_other avoid) f.uids.items)
enough_others es f avoid n h = grind (arith, most_are_others avoid f.uids.items h.uids.different, n, exact_forces es, certain_there es f.at)

-- what was found at a position that requires tags
pub met_at : (es : List Entry) (fs : List Answering) (i : ℕ) → AreFound es fs → 0 < needs_at es i → (k : ℕ) × (f : Answering) × (k < length fs) × (get_or fs k f ≡ f) × IsFound es f × (needs_at es i ≡ f.need) × UpToThree (answering (is_open (slots_of es)) es i) f.uids.items
met_at es fs i a some =
    let w = a.met i some in
    let found : IsFound es w.1 = subst (IsFound es) w.3 (a.found w.0 w.1 w.2) in
    let there = subst (λ (j : ℕ). (needs_at es j ≡ w.1.need) × UpToThree (answering (is_open (slots_of es)) es j) w.1.uids.items) w.4 (found.need, found.uids) in
    (w.0, w.1, w.2, w.3, found, there.0, there.1)

-- ---- the UIDs that were gathered

-- each was heard, and is certain, or chosen of what was found
gathered_from : (es : List Entry) (m : Met) (avoid : Option ℕ) (u : ℕ) → IsMet es m → has (chosen_population avoid m) u ≡ true → IsCertainUid es u ⊎ ((f : Answering) × IsFound es f × (has (chosen avoid f) u ≡ true))
gathered_from es m avoid u met h =
    ⊎_elim
    (λ a. let heard = (met.heard u).0 a in inl (heard_certain es heard.0 u heard.1))
    (λ b.
    let w = Any-from_list_any (λ f. has (chosen avoid f) u) m.unread.items (sym (has-flat_map avoid m.unread.items u) ∙ b) in
    inr (w.1, subst (IsFound es) w.3 ((enough_found es m.unread.items met.unread met.enough).found w.0 w.1 w.2), w.4))
    (append_cases m.heard.items (flat_map (chosen avoid) m.unread.items) u h)

-- all are open
gathered_open : (es : List Entry) (m : Met) (avoid : Option ℕ) → IsPossible es → IsMet es m → IsWithin (has (chosen_population avoid m)) (is_open (slots_of es))
gathered_open es m avoid possible met u h = grind (arith, nat_tests, gathered_from es m avoid u met h, chosen_parts avoid, IsPossibleUid-iff es u possible)

-- the one to avoid isn't there
pub gathered_other : (es : List Entry) (m : Met) (a : ℕ) → (IsCertainUid es a → ⊥) → IsMet es m → has (chosen_population (Some a) m) a ≡ true → ⊥
gathered_other es m a n met h =
    ⊎_elim n (λ from. let other = (chosen_parts (Some a) from.0 a from.2).1 in grind (arith, nat_tests)) (gathered_from es m (Some a) a met h)

-- they are few, also with one more
gathered_few : (es : List Entry) (m : Met) (avoid : Option ℕ) (xs us : List ℕ) → IsMet es m → AreDifferent us → IsWithin (has us) (has (chosen_population avoid m ++ xs)) → length xs ≤ 1 → AreFew es us
gathered_few es m avoid xs us met different within one heard all =
    let picks = flat_map (chosen avoid) m.unread.items in
    let le = no_more us (heard ++ (picks ++ xs)) different (λ u h. grind (arith, nat_tests, list_any-append, within u h, met.heard u, all u)) in
    omega (arith, length-append heard (picks ++ xs), length-append picks xs, few_chosen avoid m.unread.items, (enough_found es m.unread.items met.unread met.enough).few)

-- what a position asks for
needed_there : (es : List Entry) (m : Met) (avoid : Option ℕ) (i n : ℕ) → needs_at es i ≡ n → 0 < n → AvoidsNoneCertain es avoid → IsMet es m → (xs : List ℕ) × AreDifferent xs × (n ≤ length xs) × IsWithin (has (take n xs)) (answering (has (chosen_population avoid m)) es i)
needed_there es m avoid i n is some none met =
    let fs = m.unread.items in
    let w = met_at es fs i (enough_found es fs met.unread met.enough) (omega arith) in
    let f = w.1 in
    let need : n ≡ f.need = sym is ∙ w.5 in
    rw need (
      filter (is_other avoid) f.uids.items,
      AreDifferent-filter (is_other avoid) f.uids.items w.6.different,
      enough_others es f avoid none w.4,
      λ u c.
          let member = has-flat_map avoid fs u ∙ list_any_at (λ g. has (chosen avoid g) u) fs w.0 f w.2 (ap (λ g. has (chosen avoid g) u) w.3 ∙ c) in
          and_from _ _ (append_right m.heard.items (flat_map (chosen avoid) fs) u member) (and_parts (is_open (slots_of es) u) _ (w.6.members u (chosen_parts avoid f u c).0)).1,
    )

gathered_asks : (es : List Entry) (m : Met) (avoid : Option ℕ) → IsPossible es → AvoidsNoneCertain es avoid → IsMet es m → (i : ℕ) (e : Entry) → slice_get es i ≡ Some e → EntryAsks (reading_of e) (answering (has (chosen_population avoid m)) es i)
gathered_asks es m avoid possible none met i (Heard r) k =
    let member = append_left m.heard.items (flat_map (chosen avoid) m.unread.items) r.uid ((met.heard r.uid).1 (i, rw k (eq-eqb r.uid r.uid refl))) in
    and_from _ _ member (and_parts _ _ (supplied_each es i (Heard r) k possible)).1
gathered_asks es m avoid possible none met i (Captured r) k =
    let member = append_left m.heard.items (flat_map (chosen avoid) m.unread.items) r.uid ((met.heard r.uid).1 (i, rw k (eq-eqb r.uid r.uid refl))) in
    and_from _ _ member (and_parts _ _ (supplied_each es i (Captured r) k possible)).1
gathered_asks es m avoid possible none met i Collision k =
    let w = needed_there es m avoid i 2 (ap needs_of k) (omega arith) none met in
    asks_within ManyReplies _ _ w.3 (two_of w.0 w.1 w.2)
gathered_asks es m avoid possible none met i Garbled k =
    let w = needed_there es m avoid i 1 (ap needs_of k) (omega arith) none met in
    asks_within SomeReply _ _ w.3 (one_of w.0 w.2)
gathered_asks es m avoid possible none met i e k = tt

asks_entry : (o : Option Reading) (s t : ℕ → Bool) → IsWithin s t → EntryAsks o s → EntryAsks o t
asks_entry o s t w a = grind (arith, nat_tests)

-- with one more possible UID, or none, they are a small population
pub gathered_small : (es : List Entry) (m : Met) (avoid : Option ℕ) (xs us : List ℕ) → IsPossible es → AvoidsNoneCertain es avoid → IsMet es m → ((u : ℕ) → has xs u ≡ true → IsPossibleUid es u) → length xs ≤ 1 → IsStrictlyIncreasing us → SameMembers us (chosen_population avoid m ++ xs) → IsSmallPopulation es us
gathered_small es m avoid xs us possible none met may one rising same =
    let slots = slots_of es in
    let all = chosen_population avoid m in
    let from : IsWithin (has us) (has (all ++ xs)) = λ u h. sym (same u) ∙ h in
    let within : IsWithin (has us) (is_open slots) = λ u h. ⊎_elim (λ old. gathered_open es m avoid possible met u old) (λ new. (IsPossibleUid-iff es u possible).0 (may u new)) (append_cases all xs u (from u h)) in
    let population = rising_population us rising (λ u h. IsUid-from u (is_open-is_uid slots u (within u h))) in
    let supplied : SuppliesBefore (has us) es (length es) = λ i e lt k. asks_entry (reading_of e) _ _ (answering_within (has all) (has us) es i (λ u h. same u ∙ append_left all xs u h)) (gathered_asks es m avoid possible none met i e k) in
    record {
      rising = rising;
      population = population;
      could = (CouldHaveGiven-slots us es).1 ((MeetsAll-iff us slots population).1 (within, (SuppliesAll-places (has us) es (length es)).1 supplied));
      few = gathered_few es m avoid xs us met (AreDifferent-population us population) from one;
    }
