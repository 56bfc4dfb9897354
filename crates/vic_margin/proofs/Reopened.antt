-- What was open behind the last answer: that is what the deaf reading leaves open.
use Rattle.vic_margin.proofs.Words.{◌≡◌, ◌∙◌, ℕ, zero, suc, ◌+◌, ◌-◌, ◌<◌, ◌≤◌, ◌&&◌, ◌||◌, not, Bool, true, false, List, [], ◌∷◌, Option, Some, None, length, slice_get, slice_index, refl, sym, ap, subst, arith, nat_tests, inl, inr, cases_lt, Entry, Silent, Heard, Captured, Unknown, answers_at}
use Rattle.std.proofs.lemmas.Option.{slice_get-map, slice_get_within}
use Rattle.vic_log.proofs.Cautious.{deaf_before, deaf_behind, deaf_never, deaf_others, deaf_same, deaf_weaker_self, hidden_same, hidden_weaker}
use Rattle.vic_log.proofs.Places.{AgreeBefore, answers_agree}
use Rattle.vic_log.specs.Deaf.{IsLastAnswer, answers, captured, deaf_entries, ends_silent, has_heard_alone, hidden_entries, is_answer, is_heard_alone, is_silent}
use Rattle.vic_log.specs.Slots.{Slot, is_open, slots_before, slots_of, with_entry}
use Rattle.vic_walk.proofs.Ending.{open_earlier}
use Rattle.vic_walk.specs.Walk.{AreEndsAt, IsEnd}
use Rattle.vic_frame.specs.Masks.{BitMask}
use Rattle.vic_tree.specs.OpenSet.{SameUids}
use Rattle.vic_tree.specs.Ranges.{is_open_in}
use Rattle.vic_verdict.specs.Possible.{IsPossible, IsPossibleUid}
use Rattle.vic_margin.specs.Readings.{AreReadings, IsFirstOpened}
use Rattle.vic_margin.specs.inner.Opened.{IsBehindAnswers, IsWidestOpened, end_before, is_opened}
use Rattle.vic_margin.proofs.Opened.{first_opened, possible_deaf, possible_hidden, widest_same}

-- ---- the ends

end_at : (es : List Entry) (last n u end : ℕ) → n ≤ last → IsEnd es last u end → IsEnd es n u (end_before n end)
end_at es last n u zero le h = let none : end_before n 0 ≡ 0 = grind (arith, nat_tests) in subst (IsEnd es n u) (sym none) (open_earlier es u n last le h)
end_at es last n u (suc j) le h = elim (cases_lt n (suc j)) [
  | inl before ↦ let none : end_before n (suc j) ≡ 0 = grind (arith, nat_tests) in subst (IsEnd es n u) (sym none) (open_earlier es u n j (omega arith) h.1)
  | inr after ↦ let same : end_before n (suc j) ≡ suc j = grind (arith, nat_tests) in subst (IsEnd es n u) (sym same) (omega arith, h.1, h.2)
]

pub ends_before : (bs : List ℕ) (es : List Entry) (last n : ℕ) (ends befores : List ℕ) → n ≤ last → length befores ≡ length ends → ((p : ℕ) → slice_index befores p ≡ end_before n (slice_index ends p)) → AreEndsAt bs es last ends → AreEndsAt bs es n befores
ends_before bs es last n ends befores le size same h = record {
  room = size ∙ h.room;
  each = λ u p is own. subst (IsEnd es n u) (sym (same p)) (end_at es last n u _ le (h.each u p is own));
}

-- ---- the position behind the last answer

pub behind_is : (es : List Entry) (n : ℕ) → ((j : ℕ) (e : Entry) → n ≤ j → slice_get es j ≡ Some e → is_answer e ≡ false) → (0 < n → (e : Entry) × (slice_get es (n - 1) ≡ Some e) × (is_answer e ≡ true)) → IsBehindAnswers es n
behind_is es zero none last = λ j e k. none j e (omega arith) k
behind_is es (suc i) none last =
    let it = last (omega arith) in
    let same : suc i - 1 ≡ i = omega arith in
    record { answer = it.0; here = rw same at it.1; is_answer_there = it.2; last = λ j e lt k. none j e (omega arith) k }

pub behind_within : (es : List Entry) (n : ℕ) → IsBehindAnswers es n → n ≤ length es
behind_within es zero h = omega arith
behind_within es (suc i) h = let below = slice_get_within es i h.answer h.here in omega arith

no_answers : (es : List Entry) → ((j : ℕ) (e : Entry) → slice_get es j ≡ Some e → is_answer e ≡ false) → answers es ≡ 0
no_answers [] h = refl
no_answers (e ∷ es) h = let here = h 0 e refl in let rest = no_answers es (λ j d k. h (suc j) d k) in grind (arith, nat_tests)

-- ---- before it both readings are the same

slots_agree : (n : ℕ) (es fs : List Entry) → AgreeBefore n es fs → slots_before es n ≡ slots_before fs n
slots_agree zero es fs a = refl
slots_agree (suc n) es fs a =
    let less : AgreeBefore n es fs = λ i h. a i (omega arith) in
    λ i. with_entry (λ u. answers_agree n es fs less u i) (a n (omega arith) i) (slots_agree n es fs less i)

same_before : (es : List Entry) (n : ℕ) → IsBehindAnswers es n → AgreeBefore n (hidden_entries es) (deaf_entries es)
same_before es zero h = λ j lt. absurd (omega (arith, lt))
same_before es (suc i) h = λ j lt. sym (deaf_before es i j h (omega (arith, lt)))

-- ---- from it on the deaf one rules out no UID

abbrev rules_out : Entry → Bool
rules_out e = is_silent e || is_heard_alone e

unknown_behind : (es : List Entry) (n j : ℕ) → IsBehindAnswers es n → n ≤ j → slice_get es j ≡ Some Silent → slice_get (deaf_entries es) j ≡ Some Unknown
unknown_behind es zero j h le k = deaf_never es j (no_answers es h) k
unknown_behind es (suc i) j h le k = deaf_behind es i j h (omega arith) k

captured_none : (e d : Entry) → is_silent e ≡ false → Some (captured e) ≡ Some d → rules_out d ≡ false
captured_none e d h k = subst (λ (x : Entry). rules_out x ≡ false) (let same : captured e ≡ d = cc in same) (grind (arith, nat_tests))

none_behind : (es : List Entry) (n j : ℕ) (o : Option Entry) (d : Entry) → IsBehindAnswers es n → n ≤ j → slice_get es j ≡ o → slice_get (deaf_entries es) j ≡ Some d → rules_out d ≡ false
none_behind es n j None d h le here k = let it = deaf_others es j (λ s. cc) in let none : slice_get (hidden_entries es) j ≡ None = slice_get-map captured es j ∙ rw here refl in cc
none_behind es n j (Some Silent) d h le here k = let it = unknown_behind es n j h le here in let same : Unknown ≡ d = cc in subst (λ (x : Entry). rules_out x ≡ false) same refl
none_behind es n j (Some e) d h le here k =
    let it = deaf_others es j (λ s. cc) in
    let there : slice_get (hidden_entries es) j ≡ Some (captured e) = slice_get-map captured es j ∙ rw here refl in
    captured_none e d (grind (arith, nat_tests)) (sym there ∙ (sym it ∙ k))

passed : (t : ℕ → Bool) (o : Option Entry) (slots : List Slot) (u : ℕ) → ((d : Entry) → o ≡ Some d → rules_out d ≡ false) → is_open (with_entry t o slots) u ≡ is_open slots u
passed t None slots u h = refl
passed t (Some Silent) slots u h = let it = h Silent refl in cc
passed t (Some (Heard r)) slots u h = let it = h (Heard r) refl in cc
passed t (Some e) slots u h = refl

stays_open : (ds : List Entry) (n k u : ℕ) → ((j : ℕ) (d : Entry) → n ≤ j → slice_get ds j ≡ Some d → rules_out d ≡ false) → is_open (slots_before ds (k + n)) u ≡ is_open (slots_before ds n) u
stays_open ds n zero u h = ap (λ m. is_open (slots_before ds m) u) (let e : 0 + n ≡ n = omega arith in e)
stays_open ds n (suc k) u h =
    let e : suc k + n ≡ suc (k + n) = omega arith in
    ap (λ m. is_open (slots_before ds m) u) e ∙ (passed (answers_at ds (k + n)) (slice_get ds (k + n)) (slots_before ds (k + n)) u (λ d at. h (k + n) d (omega arith) at) ∙ stays_open ds n k u h)

-- so the deaf reading leaves open what the hidden one does there
pub deaf_open : (es : List Entry) (n u : ℕ) → IsBehindAnswers es n → is_open (slots_before (hidden_entries es) n) u ≡ is_open (slots_of (deaf_entries es)) u
deaf_open es n u h =
    let ds = deaf_entries es in
    let many = (deaf_weaker_self es).as_many in
    let within = behind_within es n h in
    let e : (length ds - n) + n ≡ length ds = omega arith in
    let stays = stays_open ds n (length ds - n) u (λ j d le at. none_behind es n j (slice_get es j) d h le refl at) in
    ap (λ slots. is_open slots u) (slots_agree n (hidden_entries es) ds (same_before es n h)) ∙ (sym stays ∙ ap (λ m. is_open (slots_before ds m) u) e)

-- ---- what the readings are

pub read_none : (es : List Entry) → has_heard_alone es ≡ false → ends_silent es ≡ false → AreReadings es (record { hidden = None; deaf = None })
read_none es unheard loud = record {
  hidden = λ u may. subst (λ ds. IsPossibleUid ds u) (hidden_same es unheard) may;
  deaf = λ u may. subst (λ ds. IsPossibleUid ds u) (deaf_same es loud ∙ hidden_same es unheard) may;
}

pub read_hidden : (es hs : List Entry) (bs ends : List ℕ) (rs : List (ℕ × ℕ)) (m : Option BitMask) (hides : Bool) → IsPossible es → SameUids (is_open_in rs) (is_open (slots_of es)) → hs ≡ hidden_entries es → hides ≡ has_heard_alone es → AreEndsAt bs hs (length hs) ends → ((fs : List Entry) (i : ℕ) → AreEndsAt bs fs i ends → (hides ≡ false → SameUids (is_open_in rs) (is_open (slots_before fs i))) → IsWidestOpened (is_opened fs i rs) m) → IsFirstOpened (hidden_entries es) es m
read_hidden es hs bs ends rs m hides possible same is hears ends_all told =
    let unhidden : hides ≡ false → SameUids (is_open_in rs) (is_open (slots_of hs)) = λ none. subst (λ ds. SameUids (is_open_in rs) (is_open (slots_of ds))) (sym (is ∙ hidden_same es (sym hears ∙ none))) same in
    let set : IsWidestOpened (is_opened hs (length hs) rs) m = told hs (length hs) ends_all unhidden in
    first_opened es (hidden_entries es) rs m possible (possible_hidden es possible) same (subst (λ ds. IsWidestOpened (is_opened ds (length ds) rs) m) is set)

pub read_deaf : (es hs : List Entry) (bs ends befores : List ℕ) (n : ℕ) (rs : List (ℕ × ℕ)) (m : Option BitMask) → IsPossible es → SameUids (is_open_in rs) (is_open (slots_of es)) → hs ≡ hidden_entries es → IsBehindAnswers es n → AreEndsAt bs hs (length hs) ends → length befores ≡ length ends → ((p : ℕ) → slice_index befores p ≡ end_before n (slice_index ends p)) → ((fs : List Entry) (i : ℕ) → AreEndsAt bs fs i befores → IsWidestOpened (is_opened fs i rs) m) → IsFirstOpened (deaf_entries es) es m
read_deaf es hs bs ends befores n rs m possible same is behind ends_all size each told =
    let many : length hs ≡ length es = ap length is ∙ (hidden_weaker es).as_many in
    let within : n ≤ length hs = let le = behind_within es n behind in omega arith in
    let set : IsWidestOpened (is_opened hs n rs) m = told hs n (ends_before bs hs (length hs) n ends befores within size each ends_all) in
    let there : IsWidestOpened (is_opened (hidden_entries es) n rs) m = subst (λ ds. IsWidestOpened (is_opened ds n rs) m) is set in
    let deaf = widest_same (is_opened (hidden_entries es) n rs) (is_opened (deaf_entries es) (length (deaf_entries es)) rs) m (λ u it. ap (λ b. b && not (is_open_in rs u)) (deaf_open es n u behind)) there in
    first_opened es (deaf_entries es) rs m possible (possible_deaf es possible) same deaf
