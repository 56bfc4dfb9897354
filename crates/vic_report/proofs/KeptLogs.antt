-- Entries of which some slots are kept, each behind a request of its own: the same tags are Quiet, and a population that fits the kept slots could have produced them.
use Rattle.vic_report.proofs.Words.{◌≡◌, ℕ, suc, ◌+◌, ◌-◌, List, [], ◌∷◌, ◌++◌, length, Bool, true, false, not, ◌&&◌, ◌||◌, Option, Some, sym, ap, ◌∙◌, subst, arith, length-append, add-one, refl, slice_get, if◌then◌else◌, None, Result, Ok, Err, OnOk, filter_agree, Entry, LogLine, mask_at, mask_of_slot, mask_since, ends_round, opener, slots_left, is_quiet, silences, wakes, answerers_at, answers_at, Fits, CouldHaveGiven, entries, is_outside_round, listed, nat_tests, refusal, IsKeptLog, SameQuiet, KeepsLine, one_slot, with_slot, BitMask, IsValidEntry, quiet_agrees, agree_upto, slice_get_last, CouldHaveGiven-push, IsInOrder-push, entries-push, last_from-push, listed-append, rising-push, slots_left-push, valid-push}

-- who is Quiet after an entry
abbrev pub quiet_after : Option Entry → Bool → ℕ → Bool
quiet_after o before u = silences o u || (not (wakes o) && before)

pub quiet_here : (es : List Entry) (i : ℕ) (e : Entry) (u : ℕ) → slice_get es i ≡ Some e → is_quiet es (i + 1) u ≡ quiet_after (Some e) (is_quiet es i u) u
quiet_here es i e u k = ap (λ n. is_quiet es n u) (add-one i) ∙ ap (λ o. quiet_after o (is_quiet es i u) u) k

quiet_pushed : (es : List Entry) (e : Entry) (u : ℕ) → is_quiet (es ++ e ∷ []) (length (es ++ e ∷ [])) u ≡ quiet_after (Some e) (is_quiet es (length es) u) u
quiet_pushed es e u =
    ap (λ n. is_quiet (es ++ e ∷ []) n u) (length-append es (e ∷ []) ∙ add-one (length es))
    ∙ (ap (λ o. quiet_after o (is_quiet (es ++ e ∷ []) (length es) u) u) (slice_get_last es e)
    ∙ ap (λ b. quiet_after (Some e) b u) (sym (quiet_agrees (length es) es (es ++ e ∷ []) u (agree_upto es (e ∷ []) (length es) (omega arith)))))

-- one entry makes the same tags Quiet and Ready as another
abbrev pub SilencesAs : Entry → Entry → Type 0
SilencesAs f e = (u : ℕ) (before : Bool) → quiet_after (Some f) before u ≡ quiet_after (Some e) before u

-- one has the entry, and the other one like it
pub same_quiet_pushed : (kept es : List Entry) (i : ℕ) (e f : Entry) → slice_get es i ≡ Some e → SilencesAs f e → SameQuiet kept es i → SameQuiet (kept ++ f ∷ []) es (i + 1)
same_quiet_pushed kept es i e f k like same u =
    quiet_pushed kept f u ∙ (like u _ ∙ (ap (λ b. quiet_after (Some e) b u) (same u) ∙ sym (quiet_here es i e u k)))

-- the slot behind a request of one slot has its mask
mask_opened : (es : List Entry) (m : BitMask) → mask_at (es ++ one_slot m ∷ []) (length (es ++ one_slot m ∷ [])) ≡ Some m
mask_opened es m =
    let e = one_slot m in
    let fs = es ++ e ∷ [] in
    let n = length es in
    let last = slice_get_last es e in
    let none : suc n - suc n ≡ 0 = omega arith in
    ap (mask_at fs) (length-append es (e ∷ []) ∙ add-one n)
    ∙ (ap (λ o. mask_since fs (suc n) (if ends_round o then Some n else opener fs n)) last
    ∙ (ap (λ o. mask_of_slot o (suc n - suc n)) last ∙ ap (λ k. mask_of_slot (Some e) k) none))

same_quiet_opened : (kept es : List Entry) (i : ℕ) (m : BitMask) → SameQuiet kept es i → SameQuiet (kept ++ one_slot m ∷ []) es i
same_quiet_opened kept es i m same u = quiet_pushed kept (one_slot m) u ∙ same u

same_quiet_slot : (old es : List Entry) (i : ℕ) (m : BitMask) (e : Entry) → slice_get es i ≡ Some e → SameQuiet old es i → SameQuiet (with_slot old m e) es (i + 1)
same_quiet_slot old es i m e k same = same_quiet_pushed (old ++ one_slot m ∷ []) es i e e k (λ u b. refl) (same_quiet_opened old es i m same)

same_answerers : (fs es : List Entry) (n i : ℕ) (p : List ℕ) → mask_at es i ≡ mask_at fs n → ((u : ℕ) → is_quiet fs n u ≡ is_quiet es i u) → answerers_at es i p ≡ answerers_at fs n p
same_answerers fs es n i p mask quiet =
    filter_agree (answers_at es i) (answers_at fs n) (λ u. let q = quiet u in rw (mask, q)) p

-- and the entry behind it fits where it fits among the others
given_with_slot : (old es : List Entry) (i : ℕ) (m : BitMask) (e : Entry) (p : List ℕ) → Some m ≡ mask_at es i → SameQuiet old es i → Fits e (answerers_at es i p) → CouldHaveGiven p old → CouldHaveGiven p (with_slot old m e)
given_with_slot old es i m e p here same fits given =
    let fs = old ++ one_slot m ∷ [] in
    let masks = sym here ∙ sym (mask_opened old m) in
    CouldHaveGiven-push p fs e (CouldHaveGiven-push p old (one_slot m) given tt)
    (subst (Fits e) (same_answerers fs es (length fs) i p masks (same_quiet_opened old es i m same)) fits)

-- ---- what `pass` ensures

-- a slot line that is kept, behind its request
pub slot_passed : {T E : Type 0} (r : Result T E) (mask : Option BitMask) (m : BitMask) (is_kept : Bool) (e : Entry) (old new : List Entry) → mask ≡ Some m → is_kept ≡ true → OnOk r (new ≡ with_slot old m e)
    → OnOk r ((es : List Entry) (i : ℕ) → slice_get es i ≡ Some e → mask ≡ mask_at es i → KeepsLine es i is_kept e old new)
slot_passed (Ok x) mask m is_kept e old new some kept added = λ es i k here. record {
  quiet = λ same. subst (λ fs. SameQuiet fs es (i + 1)) (sym added) (same_quiet_slot old es i m e k same);
  given = λ p same fits g. subst (CouldHaveGiven p) (sym added) (given_with_slot old es i m e p (sym some ∙ here) same (fits kept) g);
}
slot_passed (Err x) mask m is_kept e old new some kept added = tt

pub length-with_slot : (es : List Entry) (m : BitMask) (e : Entry) → length (with_slot es m e) ≡ length es + 2
length-with_slot es m e = omega (arith, length-append (es ++ one_slot m ∷ []) (e ∷ []), length-append es (one_slot m ∷ []))

-- an entry that fits any list of UIDs
abbrev pub FitsAny : Entry → Type 0
FitsAny e = (us : List ℕ) → Fits e us

pub entry_passed : {T E : Type 0} (r : Result T E) (mask : Option BitMask) (is_kept : Bool) (e f : Entry) (old new : List Entry) → FitsAny f → SilencesAs f e → OnOk r (new ≡ old ++ f ∷ [])
    → OnOk r ((es : List Entry) (i : ℕ) → slice_get es i ≡ Some e → mask ≡ mask_at es i → KeepsLine es i is_kept e old new)
entry_passed (Ok x) mask is_kept e f old new any like added = λ es i k here. record {
  quiet = λ same. subst (λ fs. SameQuiet fs es (i + 1)) (sym added) (same_quiet_pushed old es i e f k like same);
  given = λ p same fits g. subst (CouldHaveGiven p) (sym added) (CouldHaveGiven-push p old f g (any (answerers_at old (length old) p)));
}
entry_passed (Err x) mask is_kept e f old new any like added = tt

-- ---- entries that may follow others that list nothing

slot_left : (es : List Entry) (m : BitMask) → slots_left (es ++ one_slot m ∷ []) (length (es ++ one_slot m ∷ [])) ≡ 1
slot_left es m =
    let q = one_slot m in
    ap (slots_left (es ++ q ∷ [])) (length-append es (q ∷ []) ∙ add-one (length es)) ∙ slots_left-push es q

pub slot_in_round : (es : List Entry) (m : BitMask) (e : Entry) → is_outside_round (es ++ one_slot m ∷ []) e ≡ false
slot_in_round es m e = grind (arith, nat_tests, slot_left es m)

follows : (es : List Entry) (e : Entry) → listed es ≡ [] → listed (e ∷ []) ≡ [] → is_outside_round es e ≡ false → refusal es e ≡ None
follows es e none lists in_round = grind (arith, nat_tests, none, lists, in_round)

pub numbered_more : (lines : List LogLine) (n : ℕ) (e : Entry) → IsKeptLog lines → n ≡ length lines + 1 → IsValidEntry e → listed (e ∷ []) ≡ [] → is_outside_round (entries lines) e ≡ false → IsKeptLog (lines ++ record { number = n; item = e } ∷ [])
numbered_more lines n e a number valid lists in_round =
    let l : LogLine = record { number = n; item = e } in
    let es = entries-push lines l in
    let last = a.last in
    record {
      log = record {
        order = rw es (IsInOrder-push (entries lines) e a.log.order (follows (entries lines) e a.unlisted lists in_round));
        valid = rw es (valid-push (entries lines) e a.log.valid valid);
        rising = rising-push 0 lines l a.log.rising (omega arith);
      };
      unlisted = ap listed es ∙ (listed-append (entries lines) (e ∷ []) ∙ (ap (λ us. us ++ listed (e ∷ [])) a.unlisted ∙ lists));
      last = last_from-push 0 lines l ∙ (number ∙ sym (length-append lines (l ∷ [])));
    }

pub none_numbered : IsKeptLog []
none_numbered = record {
  log = record {
    order = record { rounds = λ i e k s. cc; requests_first = λ i j u q below k. cc; cycles_first = λ i j u below k. cc; once = λ i j u w below k. cc };
    valid = λ i q k. cc;
    rising = tt;
  };
  unlisted = refl;
  last = refl;
}
