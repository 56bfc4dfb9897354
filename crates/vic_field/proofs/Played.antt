-- A session in play: the entries of a log so far, filled, and the field's tags behind them.
use Rattle.vic_field.proofs.Words.{◌≡◌, ℕ, zero, suc, ◌+◌, ◌<◌, ◌≤◌, Bool, true, false, not, ◌&&◌, ◌||◌, List, [], ◌∷◌, ◌++◌, length, Option, Some, None, refl, sym, ap, ◌∙◌, subst, arith, append_assoc, append-nil, length-append, ⊎_elim, slice_get, if◌then◌else◌, option_map, false≢true, Request, BitMask, lies_in, slot_count, mask_in, IsUid, has, Entry, Sent, IsPopulation, is_quiet, is_slot, slots_opened, line_count, slot_line, slot_lines_to, slot_lines, uids, readiness, ready_in, heard, filter-append, filter_agree, answers_at, outcome_of, answerers_at, Fits, CouldHaveGiven, silences, wakes, mask_at, lies_in_some, still_there, last_or, CouldHaveGiven-push, without_slots, HasAllSlots, IsPlain, ArePlain, slice_get-get_or, get_or}
use Rattle.vic_field.specs.inner.Steps.{ready_after}
use Rattle.vic_field.proofs.Outcomes.{Tells, outcome_told, fits_told}
use Rattle.vic_field.proofs.Rounds.{position_in, second_position, slot_line-is_slot, slot_line-plain, slot_lines-slots, slot_lines-length, IsOpen, IsOpen-sent, IsOpen-slots, IsOpen-mask, quiet-next}

-- ---- one entry

-- the line of a slot fits its outcome in the population
slot_fits : (p : List ℕ) (es : List Entry) (tags : List (ℕ × Bool)) (m : BitMask) → IsPopulation p → IsPopulation (uids tags) → Tells p es tags → mask_at es (length es) ≡ Some m
    → Fits (slot_line (heard (ready_in m tags))) (answerers_at es (length es) p)
slot_fits p es tags m pop tagged tells at =
    let same : outcome_of (ready_in m tags) ≡ outcome_of (answerers_at es (length es) p) =
    outcome_told p es tags m pop tagged tells
    ∙ ap outcome_of (filter_agree (λ u. lies_in m u && not (is_quiet es (length es) u)) (answers_at es (length es)) (λ u. ap (λ (o : Option BitMask). lies_in_some o u && not (is_quiet es (length es) u)) (sym at)) p) in
    fits_told (outcome_of (ready_in m tags)) (answerers_at es (length es) p) (sym same)

fits_any : (e : Entry) → is_slot e ≡ false → (us : List ℕ) → Fits e us
fits_any e s us = grind arith

plain_any : (e : Entry) → is_slot e ≡ false → IsPlain e
plain_any e s = grind arith

told_after : (h s w q : Bool) (r t : Option Bool) → r ≡ (if h then Some (not q) else None) → t ≡ option_map (λ b. not s && (w || b)) r → t ≡ (if h then Some (not (s || (not w && q))) else None)
told_after h s w q r t e f = grind arith

-- a slot line changes no tag
slot_keeps : (e : Entry) (u : ℕ) (r : Option Bool) → is_slot e ≡ true → r ≡ option_map (ready_after e u) r
slot_keeps e u r s = grind arith

-- the population could have produced the entries, and the field agrees with it behind them
pub record HasRound (p : List ℕ) (es : List Entry) (tags : List (ℕ × Bool)) : Type 0 where
  pub outcomes : CouldHaveGiven p es
  pub plain : ArePlain es
  pub tells : Tells p es tags

HasRound-next : (p : List ℕ) (es : List Entry) (tags after : List (ℕ × Bool)) (e : Entry) → Fits e (answerers_at es (length es) p) → IsPlain e → ((u : ℕ) → IsUid u → readiness after u ≡ option_map (ready_after e u) (readiness tags u))
    → HasRound p es tags → HasRound p (es ++ e ∷ []) after
HasRound-next p es tags after e fits plain step h = record {
  outcomes = CouldHaveGiven-push p es e h.outcomes fits;
  plain = λ i x at. last_or es e x i at (λ lt before. h.plain i x before) (λ last same. subst IsPlain same plain);
  tells = λ u uid. rw quiet-next (told_after (has p u) (silences (Some e) u) (wakes (Some e)) (is_quiet es (length es) u) (readiness tags u) (readiness after u) (h.tells u uid) (step u uid));
}

-- ---- a round

-- the first n slots of a request
round : (p : List ℕ) (es : List Entry) (q : Request) (tags : List (ℕ × Bool)) (n : ℕ) → IsPopulation p → (0 < slot_count q → IsPopulation (uids tags)) → IsOpen es q 0 → n ≤ slot_count q
    → HasRound p es tags → HasRound p (es ++ slot_lines_to tags q n) tags
round p es q tags zero pop tagged open_now le h = subst (λ fs. HasRound p fs tags) (sym (append-nil es)) h
round p es q tags (suc n) pop tagged open_now le h =
    let fs : List Entry = es ++ slot_lines_to tags q n in
    let told = heard (ready_in (mask_in q n) tags) in
    let before : HasRound p fs tags = round p es q tags n pop tagged open_now (omega arith) h in
    let at : mask_at fs (length fs) ≡ Some (mask_in q n) = IsOpen-mask fs q n (IsOpen-slots es q tags n open_now) (omega arith) in
    subst (λ gs. HasRound p gs tags) (append_assoc es (slot_lines_to tags q n) (slot_line told ∷ []))
    (HasRound-next p fs tags tags (slot_line told) (slot_fits p fs tags (mask_in q n) pop (tagged (omega arith)) before.tells at) (slot_line-plain told) (λ u uid. slot_keeps (slot_line told) u (readiness tags u) (slot_line-is_slot told)) before)

entry_round : (p : List ℕ) (es : List Entry) (tags : List (ℕ × Bool)) (e : Entry) → is_slot e ≡ false → IsPopulation p → (0 < slots_opened (Some e) → IsPopulation (uids tags))
    → HasRound p (es ++ e ∷ []) tags → HasRound p ((es ++ e ∷ []) ++ slot_lines tags e) tags
entry_round p es tags (Sent q) s pop tagged h = round p (es ++ Sent q ∷ []) q tags (slot_count q) pop tagged (IsOpen-sent es q) (omega arith) h
entry_round p es tags e s pop tagged h = subst (λ fs. HasRound p fs tags) (sym (append-nil (es ++ e ∷ []))) h

-- ---- what a session keeps

-- the entries `done` of a log are filled to `es`, and the field has the tags of the population p as they are then
pub record IsPlayed (p : List ℕ) (done es : List Entry) (tags : List (ℕ × Bool)) : Type 0 where
  pub kept : without_slots es ≡ done
  pub slots : HasAllSlots es
  pub round : HasRound p es tags
  pub count : length es ≡ line_count done

-- a list of slot lines has no other
none_kept : (ss : List Entry) → ((i : ℕ) (e : Entry) → slice_get ss i ≡ Some e → is_slot e ≡ true) → without_slots ss ≡ []
none_kept [] h = refl
none_kept (s ∷ ss) h = rw (h 0 s refl) (none_kept ss (λ i e k. h (suc i) e k))

kept_next : (done es : List Entry) (tags : List (ℕ × Bool)) (e : Entry) → is_slot e ≡ false → without_slots es ≡ done → without_slots (es ++ e ∷ slot_lines tags e) ≡ done ++ e ∷ []
kept_next done es tags e s k =
    rw (filter-append (λ x. not (is_slot x)) es (e ∷ slot_lines tags e), s, none_kept (slot_lines tags e) (slot_lines-slots tags e), k) refl

pub line_count-next : (es : List Entry) (e : Entry) → line_count (es ++ e ∷ []) ≡ line_count es + suc (slots_opened (Some e))
line_count-next [] e = omega arith
line_count-next (x ∷ es) e = let h = line_count-next es e in omega arith

count_next : (done es : List Entry) (tags : List (ℕ × Bool)) (e : Entry) → length es ≡ line_count done → length (es ++ e ∷ slot_lines tags e) ≡ line_count (done ++ e ∷ [])
count_next done es tags e h = grind (arith, length-append es (e ∷ slot_lines tags e), slot_lines-length tags e, line_count-next done e)

-- the slots of one entry more
slots_next : (es : List Entry) (tags : List (ℕ × Bool)) (e : Entry) → HasAllSlots es → HasAllSlots (es ++ e ∷ slot_lines tags e)
slots_next es tags e h i k q at less = ⊎_elim
    (λ b. let w = h i k q b less in (w.0, still_there es (e ∷ slot_lines tags e) (suc i + k) w.0 w.1, w.2))
    (λ w. behind w.0 w.1 w.2)
    (position_in es (e ∷ slot_lines tags e) i (Sent q) at) where
      behind : (j : ℕ) → i ≡ length es + j → slice_get (e ∷ slot_lines tags e) j ≡ Some (Sent q) → (x : Entry) × (slice_get (es ++ e ∷ slot_lines tags e) (suc i + k) ≡ Some x) × (is_slot x ≡ true)
      behind zero position b =
          let same : e ≡ Sent q = cc in
          let long : length (slot_lines tags e) ≡ slot_count q = slot_lines-length tags e ∙ ap (λ (x : Entry). slots_opened (Some x)) same in
          let there = slice_get-get_or (slot_lines tags e) k e (omega arith) in
          (get_or (slot_lines tags e) k e, second_position es (e ∷ slot_lines tags e) (suc i + k) (suc k) (omega arith) ∙ there, slot_lines-slots tags e k _ there)
      behind (suc j) position b = absurd (false≢true (slot_lines-slots tags e j (Sent q) b))

-- one entry more, with its slots
pub IsPlayed-next : (p : List ℕ) (done es : List Entry) (tags after : List (ℕ × Bool)) (e : Entry) → IsPopulation p → is_slot e ≡ false → (0 < slots_opened (Some e) → IsPopulation (uids after))
    → ((u : ℕ) → IsUid u → readiness after u ≡ option_map (ready_after e u) (readiness tags u)) → IsPlayed p done es tags → IsPlayed p (done ++ e ∷ []) (es ++ e ∷ slot_lines after e) after
IsPlayed-next p done es tags after e pop s tagged step h =
    let joined : (es ++ e ∷ []) ++ slot_lines after e ≡ es ++ e ∷ slot_lines after e = append_assoc es (e ∷ []) (slot_lines after e) in
    let pushed = HasRound-next p es tags after e (fits_any e s (answerers_at es (length es) p)) (plain_any e s) step h.round in
    record {
      kept = kept_next done es after e s h.kept;
      slots = slots_next es after e h.slots;
      round = subst (λ fs. HasRound p fs after) joined (entry_round p es after e s pop tagged pushed);
      count = count_next done es after e h.count;
    }

-- nothing played yet
pub IsPlayed-start : (p : List ℕ) (tags : List (ℕ × Bool)) → ((u : ℕ) → IsUid u → readiness tags u ≡ (if has p u then Some true else None)) → IsPlayed p [] [] tags
IsPlayed-start p tags h = record {
  kept = refl;
  slots = λ i k q at less. absurd (cc);
  round = record { outcomes = λ i e at. absurd (cc); plain = λ i e at. absurd (cc); tells = h };
  count = refl;
}
