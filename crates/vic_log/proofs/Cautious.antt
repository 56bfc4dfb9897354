-- The hidden entries and the deaf ones: what they are weaker than, and what a log keeps that has them.
use Rattle.vic_log.proofs.Words.{take, ◌++◌, drop_all, take_all, append-nil, ◌≡◌, ◌≢◌, ℕ, zero, suc, ◌+◌, ◌<◌, ◌≤◌, ◌==◌, inl, inr, List, [], ◌∷◌, length, Bool, true, false, ◌&&◌, Option, Some, refl, sym, ap, ◌∙◌, subst, ⊎_elim, if◌then◌else◌, cases_lt, arith, nat_tests, slice_get, slice_get_within, slice_get_past, slice_get-get_or, get_or, drop, length-map, Entry, Silent, Heard, Listed, Captured, Unknown, Sent, FieldCycle, LogLine, Version, V3, is_slot, IsInRound, IsInOrder, IsRisingFrom, last_from, AreValid, AreTyped, IsTyped, entries, slots_left, CouldHaveGiven, Keeps}
use Rattle.vic_log.specs.Log.{IsLog}
use Rattle.vic_log.specs.Order.{numbers}
use Rattle.vic_log.specs.Weaker.{AreWeaker, IsWeaker, is_weaker}
use Rattle.vic_log.specs.Deaf.{is_answer, answers, captured, hidden_entries, is_heard_alone, has_heard_alone, deaf_entry, deaf_entries, is_silent, ends_silent, IsLastAnswer, IsPartlyHidden, ArePartlyHidden, IsPartlyDeaf, ArePartlyDeaf}
use Rattle.vic_log.proofs.Weaker.{weaker-iff, weaker_given, weaker_listed, weaker_opener, at_each, SameOrSlots}
use Rattle.vic_log.proofs.DeafLines.{deaf_at, hidden_at, length-deaf, length-hidden}

-- ---- one entry

fits_by_table : (d e : Entry) → is_slot d ≡ true → is_slot e ≡ true → is_weaker d e ≡ true → IsWeaker d e
fits_by_table d e s t w = inr (s, t, (weaker-iff d e s t).0 w)

pub weaker_same : (e : Entry) → IsWeaker e e
weaker_same e = inl refl

weaker_captured : (e : Entry) → IsWeaker (captured e) e
weaker_captured (Heard r) = fits_by_table (Captured r) (Heard r) refl refl (grind (arith, nat_tests))
weaker_captured e = grind (arith, nat_tests)

weaker_unknown : IsWeaker Unknown Silent
weaker_unknown = inr (refl, refl, λ us f. tt)

weaker_silence : (b : Bool) → IsWeaker (if b then Unknown else Silent) Silent
weaker_silence true = weaker_unknown
weaker_silence false = inl refl

weaker_deaf : (e : Entry) (n : ℕ) → IsWeaker (deaf_entry e n) (captured e)
weaker_deaf Silent n = weaker_silence (n == 0)
weaker_deaf e n = grind (arith, nat_tests)

weaker_deaf_self : (e : Entry) (n : ℕ) → IsWeaker (deaf_entry e n) e
weaker_deaf_self Silent n = weaker_silence (n == 0)
weaker_deaf_self (Heard r) n = weaker_captured (Heard r)
weaker_deaf_self e n = grind (arith, nat_tests)

weaker_of_hidden : (d e : Entry) → IsPartlyHidden d e → IsWeaker (captured e) d
weaker_of_hidden d e h = ⊎_elim (λ same. subst (λ x. IsWeaker (captured e) x) (sym same) (weaker_captured e)) (λ same. inl (sym same)) h

weaker_of_deaf : (d e : Entry) (n : ℕ) → IsPartlyDeaf d e n → IsWeaker (deaf_entry e n) d
weaker_of_deaf d e n h = ⊎_elim
    (λ k. ⊎_elim (λ same. subst (λ x. IsWeaker (deaf_entry e n) x) (sym same) (weaker_deaf_self e n)) (λ same. subst (λ x. IsWeaker (deaf_entry e n) x) (sym same) (weaker_deaf e n)) k)
    (λ same. inl (sym same)) h

-- ---- all entries

at_cons : (d e : Entry) (ds es : List Entry) → IsWeaker d e → AreWeaker ds es → (i : ℕ) (f g : Entry) → slice_get (d ∷ ds) i ≡ Some f → slice_get (e ∷ es) i ≡ Some g → IsWeaker f g
at_cons d e ds es here w zero f g k l = let a : d ≡ f = cc in let b : e ≡ g = cc in subst (λ x. IsWeaker x g) a (subst (λ x. IsWeaker d x) b here)
at_cons d e ds es here w (suc i) f g k l = w.each i f g k l

weaker-cons : (d e : Entry) (ds es : List Entry) → IsWeaker d e → AreWeaker ds es → AreWeaker (d ∷ ds) (e ∷ es)
weaker-cons d e ds es here w = record { as_many = ap suc w.as_many; each = at_cons d e ds es here w }

weaker-nil : AreWeaker [] []
weaker-nil = record { as_many = refl; each = λ i d e k l. cc }

pub hidden_weaker : (es : List Entry) → AreWeaker (hidden_entries es) es
hidden_weaker [] = weaker-nil
hidden_weaker (e ∷ es) = weaker-cons _ e _ es (weaker_captured e) (hidden_weaker es)

pub deaf_weaker : (es : List Entry) → AreWeaker (deaf_entries es) (hidden_entries es)
deaf_weaker [] = weaker-nil
deaf_weaker (e ∷ es) = weaker-cons _ _ _ _ (weaker_deaf e (answers es)) (deaf_weaker es)

pub deaf_weaker_self : (es : List Entry) → AreWeaker (deaf_entries es) es
deaf_weaker_self [] = weaker-nil
deaf_weaker_self (e ∷ es) = weaker-cons _ e _ es (weaker_deaf_self e (answers es)) (deaf_weaker_self es)

partly_hidden : (ds es : List Entry) → ArePartlyHidden ds es → AreWeaker (hidden_entries es) ds
partly_hidden [] [] h = weaker-nil
partly_hidden [] (e ∷ es) h = absurd h
partly_hidden (d ∷ ds) [] h = absurd h
partly_hidden (d ∷ ds) (e ∷ es) h = weaker-cons _ d _ ds (weaker_of_hidden d e h.0) (partly_hidden ds es h.1)

partly_deaf : (ds es : List Entry) → ArePartlyDeaf ds es → AreWeaker (deaf_entries es) ds
partly_deaf [] [] h = weaker-nil
partly_deaf [] (e ∷ es) h = absurd h
partly_deaf (d ∷ ds) [] h = absurd h
partly_deaf (d ∷ ds) (e ∷ es) h = weaker-cons _ d _ ds (weaker_of_deaf d e (answers es) h.0) (partly_deaf ds es h.1)

pub given_hidden : (ds es : List Entry) → ArePartlyHidden ds es → (p : List ℕ) → CouldHaveGiven p ds → CouldHaveGiven p (hidden_entries es)
given_hidden ds es h p g = weaker_given _ ds (partly_hidden ds es h) p g

pub given_deaf : (ds es : List Entry) → ArePartlyDeaf ds es → (p : List ℕ) → CouldHaveGiven p ds → CouldHaveGiven p (deaf_entries es)
given_deaf ds es h p g = weaker_given _ ds (partly_deaf ds es h) p g

-- ---- the same

captured_same : (e : Entry) → is_heard_alone e ≡ false → captured e ≡ e
captured_same e h = grind (arith, nat_tests)

pub hidden_same : (es : List Entry) → has_heard_alone es ≡ false → hidden_entries es ≡ es
hidden_same [] h = refl
hidden_same (e ∷ es) h = grind (arith, nat_tests, captured_same e, hidden_same es)

deaf_same_here : (e : Entry) (n : ℕ) → (is_silent e && n == 0) ≡ false → deaf_entry e n ≡ captured e
deaf_same_here e n h = grind (arith, nat_tests)

pub deaf_same : (es : List Entry) → ends_silent es ≡ false → deaf_entries es ≡ hidden_entries es
deaf_same [] h = refl
deaf_same (e ∷ es) h = grind (arith, nat_tests, deaf_same_here e (answers es), deaf_same es)

captured_answer : (e : Entry) → is_answer (captured e) ≡ is_answer e
captured_answer e = grind (arith, nat_tests)

answers_hidden : (es : List Entry) → answers (hidden_entries es) ≡ answers es
answers_hidden [] = refl
answers_hidden (e ∷ es) = grind (arith, nat_tests, captured_answer e, answers_hidden es)

deaf_captured : (e : Entry) (n : ℕ) → deaf_entry (captured e) n ≡ deaf_entry e n
deaf_captured e n = grind (arith, nat_tests)

pub deaf_of_hidden : (es : List Entry) → deaf_entries (hidden_entries es) ≡ deaf_entries es
deaf_of_hidden [] = refl
deaf_of_hidden (e ∷ es) = rw (answers_hidden es, deaf_captured e (answers es), deaf_of_hidden es) refl

-- ---- the last answer

-- no entry from position n on is an answer
none_behind : (es : List Entry) (n : ℕ) → ((j : ℕ) (e : Entry) → n ≤ j → slice_get es j ≡ Some e → is_answer e ≡ false) → answers (drop n es) ≡ 0
none_behind [] zero h = refl
none_behind [] (suc n) h = refl
none_behind (e ∷ es) zero h = let here = h 0 e (omega arith) refl in let rest = none_behind es zero (λ j f le k. h (suc j) f (omega arith) k) in grind (arith, nat_tests)
none_behind (e ∷ es) (suc n) h = none_behind es n (λ j f le k. h (suc j) f (omega arith) k)

-- an answer from position n on
some_behind : (es : List Entry) (n j : ℕ) (e : Entry) → n ≤ j → slice_get es j ≡ Some e → is_answer e ≡ true → 0 < answers (drop n es)
some_behind [] n j e le k a = cc
some_behind (f ∷ es) zero zero e le k a = grind (arith, nat_tests)
some_behind (f ∷ es) zero (suc j) e le k a = let rest = some_behind es zero j e (omega arith) k a in grind (arith, nat_tests)
some_behind (f ∷ es) (suc n) zero e le k a = absurd (omega arith)
some_behind (f ∷ es) (suc n) (suc j) e le k a = some_behind es n j e (omega arith) k a

no_more : (es : List Entry) (n : ℕ) → answers es ≡ 0 → answers (drop n es) ≡ 0
no_more [] zero h = refl
no_more [] (suc n) h = refl
no_more (e ∷ es) zero h = h
no_more (e ∷ es) (suc n) h = let rest = no_more es n in grind (arith, nat_tests, rest)

silent_unknown : (n : ℕ) → n ≡ 0 → deaf_entry Silent n ≡ Unknown
silent_unknown n h = rw h refl

-- both readings at a position, if they are the same at its entry
same_at : (es : List Entry) (i : ℕ) → ((e : Entry) → slice_get es i ≡ Some e → deaf_entry e (answers (drop (suc i) es)) ≡ captured e) → slice_get (deaf_entries es) i ≡ slice_get (hidden_entries es) i
same_at es i h = elim (cases_lt i (length es)) [
  | inl below ↦
      let k = slice_get-get_or es i Silent below in
      deaf_at es i _ k ∙ (ap Some (h _ k) ∙ sym (hidden_at es i _ k))
  | inr above ↦
      slice_get_past _ i (rw (length-deaf es) above) ∙ sym (slice_get_past _ i (rw (length-hidden es) above))
]

kept_with_more : (e : Entry) (n : ℕ) → 0 < n → deaf_entry e n ≡ captured e
kept_with_more e n h = grind (arith, nat_tests)

kept_answer : (e : Entry) (n : ℕ) → is_answer e ≡ true → deaf_entry e n ≡ captured e
kept_answer e n h = grind (arith, nat_tests)

kept_other : (e : Entry) (n : ℕ) → e ≢ Silent → deaf_entry e n ≡ captured e
kept_other e n h = grind (arith, nat_tests)

pub deaf_behind : (es : List Entry) (i j : ℕ) → IsLastAnswer es i → i < j → slice_get es j ≡ Some Silent → slice_get (deaf_entries es) j ≡ Some Unknown
deaf_behind es i j a lt k = deaf_at es j Silent k ∙ ap Some (silent_unknown _ (none_behind es (suc j) (λ m e le g. a.last m e (omega arith) g)))

pub deaf_never : (es : List Entry) (j : ℕ) → answers es ≡ 0 → slice_get es j ≡ Some Silent → slice_get (deaf_entries es) j ≡ Some Unknown
deaf_never es j none k = deaf_at es j Silent k ∙ ap Some (silent_unknown _ (no_more es (suc j) none))

kept_before : (es : List Entry) (i j : ℕ) → IsLastAnswer es i → j ≤ i → (e : Entry) → slice_get es j ≡ Some e → deaf_entry e (answers (drop (suc j) es)) ≡ captured e
kept_before es i j a le e k = elim (cases_lt j i) [
  | inl less ↦ kept_with_more e _ (some_behind es (suc j) i a.answer less a.here a.is_answer_there)
  | inr more ↦
      let same : i ≡ j = omega arith in
      let it : a.answer ≡ e = let h = subst (λ m. slice_get es m ≡ Some a.answer) same a.here in cc in
      kept_answer e _ (subst (λ x. is_answer x ≡ true) it a.is_answer_there)
]

pub deaf_before : (es : List Entry) (i j : ℕ) → IsLastAnswer es i → j ≤ i → slice_get (deaf_entries es) j ≡ slice_get (hidden_entries es) j
deaf_before es i j a le = same_at es j (kept_before es i j a le)

pub deaf_others : (es : List Entry) (j : ℕ) → slice_get es j ≢ Some Silent → slice_get (deaf_entries es) j ≡ slice_get (hidden_entries es) j
deaf_others es j h = same_at es j (λ e k. kept_other e _ (λ same. h (k ∙ ap Some same)))

-- ---- what a log keeps

weaker_left : (ds es : List Entry) → AreWeaker ds es → (i : ℕ) → slots_left ds i ≡ slots_left es i
weaker_left ds es w i = grind (arith, nat_tests, weaker_opener ds es w i, at_each ds es w)

-- what isn't a slot line is the same
same_other : (o p : Option Entry) (e : Entry) → SameOrSlots o p → o ≡ Some e → is_slot e ≡ false → p ≡ Some e
same_other o p e s k n = ⊎_elim (λ same. sym same ∙ k) (λ h. cc) s

same_other_back : (o p : Option Entry) (e : Entry) → SameOrSlots o p → p ≡ Some e → is_slot e ≡ false → o ≡ Some e
same_other_back o p e s k n = ⊎_elim (λ same. same ∙ k) (λ h. cc) s

slot_stays : (o p : Option Entry) (d : Entry) → SameOrSlots o p → o ≡ Some d → is_slot d ≡ true → (e : Entry) × (p ≡ Some e) × (is_slot e ≡ true)
slot_stays o p d s k is = ⊎_elim (λ same. (d, sym same ∙ k, is)) (λ h. (h.1, h.3, h.5)) s

weaker_round : (ds es : List Entry) → AreWeaker ds es → (i : ℕ) → IsInRound es i → IsInRound ds i
weaker_round ds es w i r = (r.0, r.1, weaker_opener ds es w i ∙ r.2, same_other_back _ _ (Sent r.1) (at_each ds es w r.0) r.3 refl, r.4)

weaker_order : (ds es : List Entry) → AreWeaker ds es → IsInOrder es → IsInOrder ds
weaker_order ds es w o =
    let other : (i : ℕ) (e : Entry) → slice_get ds i ≡ Some e → is_slot e ≡ false → slice_get es i ≡ Some e = λ i e k n. same_other _ _ e (at_each ds es w i) k n in
    record {
      rounds = λ i e k is. let s = slot_stays _ _ e (at_each ds es w i) k is in weaker_round ds es w i (o.rounds i s.0 s.1 s.2);
      requests_first = λ i j u q lt a b. o.requests_first i j u q lt (other i (Listed u) a refl) (other j (Sent q) b refl);
      cycles_first = λ i j u lt a b. o.cycles_first i j u lt (other i (Listed u) a refl) (other j FieldCycle b refl);
      once = λ i j u v lt a b. o.once i j u v lt (other i (Listed u) a refl) (other j (Listed v) b refl);
    }

weaker_valid : (ds es : List Entry) → AreWeaker ds es → AreValid es → AreValid ds
weaker_valid ds es w v i q k = v i q (same_other _ _ (Sent q) (at_each ds es w i) k refl)

-- lines with the same numbers

same_rising : (n : ℕ) (xs ys : List LogLine) → numbers xs ≡ numbers ys → IsRisingFrom n ys → IsRisingFrom n xs
same_rising n [] [] h r = tt
same_rising n [] (y ∷ ys) h r = tt
same_rising n (x ∷ xs) [] h r = cc
same_rising n (x ∷ xs) (y ∷ ys) h r =
    let here : x.number ≡ y.number = cc in
    let rest : numbers xs ≡ numbers ys = cc in
    (rw here r.0, rw here (same_rising y.number xs ys rest r.1))

same_last : (n : ℕ) (xs ys : List LogLine) → numbers xs ≡ numbers ys → last_from n xs ≡ last_from n ys
same_last n [] [] h = refl
same_last n [] (y ∷ ys) h = cc
same_last n (x ∷ xs) [] h = cc
same_last n (x ∷ xs) (y ∷ ys) h =
    let here : x.number ≡ y.number = cc in
    let rest : numbers xs ≡ numbers ys = cc in
    rw here (same_last y.number xs ys rest)

same_length : (xs ys : List LogLine) → numbers xs ≡ numbers ys → length xs ≡ length ys
same_length xs ys h = sym (length-map xs (λ (l : LogLine). l.number)) ∙ (ap length h ∙ length-map ys (λ (l : LogLine). l.number))

weaker_log : (version : Version) (xs ys : List LogLine) → numbers xs ≡ numbers ys → AreWeaker (entries xs) (entries ys) → AreTyped (entries xs) → IsLog version ys → IsLog V3 xs
weaker_log version xs ys n w t l = record {
  order = weaker_order _ _ w l.order;
  rising = same_rising 1 xs ys n l.rising;
  limit = rw (same_last 1 xs ys n) l.limit;
  valid = weaker_valid _ _ w l.valid;
  typed = t;
  first_version = λ v. cc;
  second_version = λ v. cc;
}

-- what a log keeps, with weaker entries on the same lines in version 3
pub Keeps-weaker : (version : Version) (xs ys : List LogLine) (listing : Bool) (left : ℕ) → numbers xs ≡ numbers ys → AreWeaker (entries xs) (entries ys) → AreTyped (entries xs) → Keeps version ys listing left → Keeps V3 xs listing left
Keeps-weaker version xs ys listing left n w t k = record {
  is_log = weaker_log version xs ys n w t k.is_log;
  listing_is = rw (weaker_listed _ _ w) k.listing_is;
  left_is = rw (same_length xs ys n, weaker_left _ _ w (length ys)) k.left_is;
}

-- ---- the types of their numbers

typed_captured : (e : Entry) → IsTyped e → IsTyped (captured e)
typed_captured e t = grind (arith, nat_tests)

typed_deaf : (e : Entry) (n : ℕ) → IsTyped e → IsTyped (deaf_entry e n)
typed_deaf Silent n t = grind (arith, nat_tests)
typed_deaf e n t = grind (arith, nat_tests)

pub typed_hidden : (es : List Entry) → AreTyped es → AreTyped (hidden_entries es)
typed_hidden es t i d k =
    let below = slice_get_within _ i d k in
    let many = length-hidden es in
    let l = slice_get-get_or es i Silent (omega arith) in
    let it = sym (hidden_at es i _ l) ∙ k in
    let same : captured (get_or es i Silent) ≡ d = cc in
    subst IsTyped same (typed_captured _ (t i _ l))

pub typed_deafened : (es : List Entry) → AreTyped es → AreTyped (deaf_entries es)
typed_deafened es t i d k =
    let below = slice_get_within _ i d k in
    let many = length-deaf es in
    let l = slice_get-get_or es i Silent (omega arith) in
    let it = sym (deaf_at es i _ l) ∙ k in
    let same : deaf_entry (get_or es i Silent) (answers (drop (suc i) es)) ≡ d = cc in
    subst IsTyped same (typed_deaf _ _ (t i _ l))

-- ---- how many answers there may be

pub few_answers : (es : List Entry) → answers es ≤ length es
few_answers [] = omega arith
few_answers (e ∷ es) = let rest = few_answers es in grind (arith, nat_tests)

pub lines_within : (n : ℕ) (lines : List LogLine) → IsRisingFrom n lines → n + length lines ≤ last_from n lines
lines_within n [] r = omega arith
lines_within n (l ∷ lines) r = let rest = lines_within l.number lines r.1 in let above = r.0 in omega arith

-- as many lines written into the room of others
pub written_back : (len : ℕ) (xs ys : List LogLine) → len ≡ length ys → numbers xs ≡ numbers ys → take len (xs ++ drop (length xs) ys) ≡ xs
written_back len xs ys e h =
    let many = same_length xs ys h in
    grind (arith, drop_all, append-nil, take_all)
