-- From the entries of a log to its slots; what entries that follow leave as it is.
use Rattle.vic_log.proofs.Words.{◌≡◌, ℕ, zero, suc, ◌<◌, ◌≤◌, List, [], ◌∷◌, ◌++◌, length, Bool, Option, Some, None, refl, sym, ◌∙◌, subst, arith, ◌↔◌, inl, inr, slice_get, nat_tests, filter, cases_lt, cond_both, length_push, slice_get_within, Entry, opener, is_quiet, answers_at, Fits, CouldHaveGiven, Slot, filter_agree, answerers_at, with_entry, slots_before, slots_of}
use Rattle.vic_log.specs.Rounds.{mask_at}
use Rattle.vic_log.proofs.Meeting.{MeetsAll}

-- ---- entries and slots

fits_entry : (answers : ℕ → Bool) (e : Entry) (slots : List Slot) (p : List ℕ) → MeetsAll p (with_entry answers (Some e) slots) ↔ (Fits e (filter answers p) × MeetsAll p slots)
fits_entry answers e slots p = grind (arith, nat_tests)

-- the entries of the first n positions fit
abbrev FitBefore : List ℕ → List Entry → ℕ → Type 0
FitBefore p es n = (i : ℕ) (e : Entry) → i < n → slice_get es i ≡ Some e → Fits e (answerers_at es i p)

slot_step : (p : List ℕ) (answers : ℕ → Bool) (o : Option Entry) (slots : List Slot) → MeetsAll p (with_entry answers o slots) ↔ (((e : Entry) → o ≡ Some e → Fits e (filter answers p)) × MeetsAll p slots)
slot_step p answers None slots = grind (arith, nat_tests)
slot_step p answers (Some e) slots = grind (arith, nat_tests, fits_entry answers e slots p)

pub MeetsAll-slots : (p : List ℕ) (es : List Entry) (n : ℕ) → MeetsAll p (slots_before es n) ↔ FitBefore p es n
MeetsAll-slots p es zero = ((λ h i e k. absurd (omega arith)), (λ h. tt))
MeetsAll-slots p es (suc n) = grind (arith, nat_tests, slot_step, MeetsAll-slots p es n)

pub CouldHaveGiven-slots : (p : List ℕ) (es : List Entry) → CouldHaveGiven p es ↔ MeetsAll p (slots_of es)
CouldHaveGiven-slots p es =
    let all = MeetsAll-slots p es (length es) in (
      (λ h. all.1 (λ i e k g. h i e g)),
      (λ h i e g. all.0 h i e (slice_get_within es i e g) g),
    )

-- ---- entries that follow

-- the same entries in the first n positions
abbrev pub AgreeBefore : ℕ → List Entry → List Entry → Type 0
AgreeBefore n es fs = (i : ℕ) → i < n → slice_get es i ≡ slice_get fs i

pub opener_agrees : (n : ℕ) (es fs : List Entry) → AgreeBefore n es fs → opener es n ≡ opener fs n
opener_agrees zero es fs a = refl
opener_agrees (suc n) es fs a = grind (arith, nat_tests, opener_agrees n es fs)

pub quiet_agrees : (n : ℕ) (es fs : List Entry) (u : ℕ) → AgreeBefore n es fs → is_quiet es n u ≡ is_quiet fs n u
quiet_agrees zero es fs u a = refl
quiet_agrees (suc n) es fs u a = grind (arith, nat_tests, quiet_agrees n es fs u)

pub opener_below : (es : List Entry) (n j : ℕ) → opener es n ≡ Some j → j < n
opener_below es zero j e = cc
opener_below es (suc n) j e = grind (arith, nat_tests, cond_both, opener_below es n j)

mask_agrees : (n : ℕ) (es fs : List Entry) → AgreeBefore n es fs → mask_at es n ≡ mask_at fs n
mask_agrees n es fs a = grind (arith, nat_tests, opener_agrees, opener_below)

pub answers_agree : (n : ℕ) (es fs : List Entry) → AgreeBefore n es fs → (u : ℕ) → answers_at es n u ≡ answers_at fs n u
answers_agree n es fs a u = grind (arith, nat_tests, mask_agrees, quiet_agrees)

pub answerers_agree : (n : ℕ) (es fs : List Entry) (p : List ℕ) → AgreeBefore n es fs → answerers_at es n p ≡ answerers_at fs n p
answerers_agree n es fs p a = filter_agree (answers_at es n) (answers_at fs n) (answers_agree n es fs a) p

pub slice_get-append : {A : Type 0} (es fs : List A) (i : ℕ) → i < length es → slice_get es i ≡ slice_get (es ++ fs) i
slice_get-append [] fs i h = absurd (omega arith)
slice_get-append (e ∷ es) fs zero h = refl
slice_get-append (e ∷ es) fs (suc i) h = slice_get-append es fs i (omega arith)

pub agree_append : (es fs : List Entry) → AgreeBefore (length es) es (es ++ fs)
agree_append = slice_get-append

-- a population that could have produced entries could have produced those that they begin with
pub CouldHaveGiven-front : (p : List ℕ) (es fs : List Entry) → CouldHaveGiven p (es ++ fs) → CouldHaveGiven p es
CouldHaveGiven-front p es fs h i e k =
    let within = slice_get_within es i e k in
    let a : AgreeBefore i es (es ++ fs) = λ j below. agree_append es fs j (omega arith) in
    subst (Fits e) (sym (answerers_agree i es (es ++ fs) p a)) (h i e (sym (agree_append es fs i within) ∙ k))

-- ---- one entry more

pub slice_get_seam : {A : Type 0} (es : List A) (e : A) (fs : List A) → slice_get (es ++ e ∷ fs) (length es) ≡ Some e
slice_get_seam [] e fs = refl
slice_get_seam (x ∷ es) e fs = slice_get_seam es e fs

pub slice_get_last : (es : List Entry) (e : Entry) → slice_get (es ++ e ∷ []) (length es) ≡ Some e
slice_get_last es e = slice_get_seam es e []

pub agree_upto : (es fs : List Entry) (i : ℕ) → i ≤ length es → AgreeBefore i es (es ++ fs)
agree_upto es fs i h j below = agree_append es fs j (omega arith)

-- a position of the list with one entry more: one before, or the last
pub last_or : {P : Type 0} (es : List Entry) (e f : Entry) (i : ℕ) → slice_get (es ++ e ∷ []) i ≡ Some f → (i < length es → slice_get es i ≡ Some f → P) → (i ≡ length es → e ≡ f → P) → P
last_or es e f i k before last = elim (cases_lt i (length es)) [
  | inl below ↦ before below (agree_append es (e ∷ []) i below ∙ k)
  | inr above ↦
      let within = slice_get_within (es ++ e ∷ []) i f k in
      let same : i ≡ length es = omega (arith, length_push es e) in
      last same (cc (slice_get_last es e))
]

-- with one entry more, that one has to fit too
pub CouldHaveGiven-push : (p : List ℕ) (es : List Entry) (e : Entry) → CouldHaveGiven p es → Fits e (answerers_at es (length es) p) → CouldHaveGiven p (es ++ e ∷ [])
CouldHaveGiven-push p es e g h i f k = last_or es e f i k
    (λ below here. subst (Fits f) (answerers_agree i es (es ++ e ∷ []) p (agree_upto es (e ∷ []) i (omega arith))) (g i f here))
    (λ same it. rw (same, ← it) (subst (Fits e) (answerers_agree (length es) es (es ++ e ∷ []) p (agree_upto es (e ∷ []) (length es) (omega arith))) h))
