-- What a judge that goes over the entries once needs: what each entry does to the open UIDs, and what the open UIDs that
-- could have answered in a slot, up to three of them, tell.
use Rattle.vic_verdict.proofs.Words.{◌≡◌, ℕ, zero, suc, ◌<◌, ◌≤◌, List, [], ◌∷◌, length, Bool, true, ◌&&◌, Option, Some, None, ap, ◌∙◌, arith, nat_tests, inl, inr, ◌⊎◌, ◌↔◌, slice_get, cases_eq, eq-eqb, eqb-true, false≢true, Entry, Heard, Captured, hears, Collision, Garbled, has, AreDifferent, IsWithin, answers_at, Reading, ManyReplies, SomeReply, Slot, reading_of, slots_before, is_open, Asks, SuppliesAll, Forces, IsForcedBy, UpToThree, answering, needs, with_entry, may_be, ⊤, subst, needs_of, refl, sym}

-- what a slot line asks of the UIDs that answer there; an entry that is no slot line asks nothing
abbrev pub EntryAsks : Option Reading → (ℕ → Bool) → Type 0
EntryAsks None t = ⊤
EntryAsks (Some r) t = Asks r t

-- what it tells of them: that a UID is there
abbrev pub EntryForces : Option Reading → (ℕ → Bool) → ℕ → Type 0
EntryForces None t u = ⊥
EntryForces (Some r) t u = Forces r t u

-- ---- the open UIDs, entry by entry

-- an entry leaves the UIDs open that it allows
abbrev pub entry_allows : Option Reading → Bool → ℕ → Bool
entry_allows None answers u = true
entry_allows (Some r) answers u = may_be r answers u

-- an entry, if there is one, leaves the UIDs open that it allows
abbrev pub place_allows : Option Entry → Bool → ℕ → Bool
place_allows None answers u = true
place_allows (Some e) answers u = entry_allows (reading_of e) answers u

pub open_place : (answers : ℕ → Bool) (o : Option Entry) (slots : List Slot) (u : ℕ) → is_open (with_entry answers o slots) u ≡ (is_open slots u && place_allows o (answers u) u)
open_place answers o slots u = grind (arith, nat_tests)

-- one entry more
pub open_step : (es : List Entry) (i : ℕ) (e : Entry) (u : ℕ) → slice_get es i ≡ Some e → is_open (slots_before es (suc i)) u ≡ (is_open (slots_before es i) u && entry_allows (reading_of e) (answers_at es i u) u)
open_step es i e u k =
    ap (λ o. is_open (with_entry (answers_at es i) o (slots_before es i)) u) k ∙ open_place (answers_at es i) (Some e) (slots_before es i) u

-- ---- slot by slot, by positions

-- the slots of the first n positions get what they ask for
abbrev pub SuppliesBefore : (ℕ → Bool) → List Entry → ℕ → Type 0
SuppliesBefore set es n = (i : ℕ) (e : Entry) → i < n → slice_get es i ≡ Some e → EntryAsks (reading_of e) (answering set es i)

supplies_step : (set answers : ℕ → Bool) (o : Option Entry) (slots : List Slot) → SuppliesAll set (with_entry answers o slots) ↔ (((e : Entry) → o ≡ Some e → EntryAsks (reading_of e) (λ u. set u && answers u)) × SuppliesAll set slots)
supplies_step set answers o slots = grind (arith, nat_tests)

supplies_more : (set : ℕ → Bool) (es : List Entry) (n : ℕ) → SuppliesBefore set es n → ((e : Entry) → slice_get es n ≡ Some e → EntryAsks (reading_of e) (answering set es n)) → SuppliesBefore set es (suc n)
supplies_more set es n below here i e h k = grind (arith, nat_tests)

pub SuppliesAll-places : (set : ℕ → Bool) (es : List Entry) (n : ℕ) → SuppliesAll set (slots_before es n) ↔ SuppliesBefore set es n
SuppliesAll-places set es zero = ((λ h i e k. absurd (omega arith)), (λ h. tt))
SuppliesAll-places set es (suc n) = grind (arith, supplies_step set (answers_at es n) (slice_get es n) (slots_before es n), supplies_more set es n, SuppliesAll-places set es n)

forced_step : (set answers : ℕ → Bool) (o : Option Entry) (slots : List Slot) (u : ℕ) → IsForcedBy set (with_entry answers o slots) u ↔ (((e : Entry) × (o ≡ Some e) × EntryForces (reading_of e) (λ w. set w && answers w) u) ⊎ IsForcedBy set slots u)
forced_step set answers o slots u = grind (arith, nat_tests)

-- a UID is forced by the slots of the first n positions where an entry there forces it
pub IsForcedBy-places : (set : ℕ → Bool) (es : List Entry) (n u : ℕ) → IsForcedBy set (slots_before es n) u ↔ ((i : ℕ) × (e : Entry) × (i < n) × (slice_get es i ≡ Some e) × EntryForces (reading_of e) (answering set es i) u)
IsForcedBy-places set es zero u = ((λ h. absurd h), (λ w. omega (arith, w.2)))
IsForcedBy-places set es (suc n) u =
    let step = forced_step set (answers_at es n) (slice_get es n) (slots_before es n) u in
    let rest = IsForcedBy-places set es n u in (
      (λ h. elim (step.0 h) [
        | inl f ↦ (n, f.0, omega arith, f.1, f.2)
        | inr k ↦ let w = rest.0 k in (w.0, w.1, omega (arith, w.2), w.3, w.4)
      ]),
      (λ w. step.1 (elim (cases_eq w.0 n) [
        | inl here ↦ inl (w.1, rw here at w.3, rw here at w.4)
        | inr ne ↦ inr (rest.1 (w.0, w.1, omega (arith, w.2), w.3, w.4))
      ])),
    )

-- ---- up to three of a set

-- the same set
pub UpToThree-same : (s t : ℕ → Bool) (us : List ℕ) → ((u : ℕ) → s u ≡ t u) → UpToThree s us → UpToThree t us
UpToThree-same s t us e h = subst (λ (set : ℕ → Bool). UpToThree set us) (λ i u. e u i) h

-- a collision is possible where there are two
pub asks_two_iff : (t : ℕ → Bool) (xs : List ℕ) → UpToThree t xs → Asks ManyReplies t ↔ (2 ≤ length xs)
asks_two_iff t (x ∷ y ∷ xs) h = grind (arith, nat_tests, h.members x, h.members y)
asks_two_iff t xs h = grind (arith, nat_tests, h.all)

-- and makes a UID certain where it is one of just two
pub forces_two_iff : (t : ℕ → Bool) (xs : List ℕ) (u : ℕ) → UpToThree t xs → Forces ManyReplies t u ↔ ((length xs ≡ 2) × (has xs u ≡ true))
forces_two_iff t (x ∷ y ∷ z ∷ xs) u h = grind (arith, nat_tests, h.members x, h.members y, h.members z)
forces_two_iff t (x ∷ y ∷ []) u h = grind (arith, nat_tests, h.members x, h.members y, h.all)
forces_two_iff t xs u h = grind (arith, nat_tests, h.all)

-- a garbled slot is possible where there is one
pub asks_one_iff : (t : ℕ → Bool) (xs : List ℕ) → UpToThree t xs → Asks SomeReply t ↔ (1 ≤ length xs)
asks_one_iff t [] h = grind (arith, nat_tests, h.all)
asks_one_iff t (x ∷ xs) h = grind (arith, nat_tests, h.members x)

-- and makes it certain where it is the only one
pub forces_one_iff : (t : ℕ → Bool) (xs : List ℕ) (u : ℕ) → UpToThree t xs → Forces SomeReply t u ↔ ((length xs ≡ 1) × (has xs u ≡ true))
forces_one_iff t (x ∷ y ∷ xs) u h = grind (arith, nat_tests, h.members x, h.members y)
forces_one_iff t xs u h = grind (arith, nat_tests, h.all, h.members)

-- ---- a slot line that needs tags it doesn't name

-- a list of different numbers as a set
own : (xs : List ℕ) → AreDifferent xs → UpToThree (has xs) xs
own xs d = record { different = d; members = λ u h. h; all = λ few u h. h }

pub enough_needed : (e : Entry) (t : ℕ → Bool) (xs : List ℕ) → 0 < needs e → AreDifferent xs → needs e ≤ length xs → IsWithin (has xs) t → EntryAsks (reading_of e) t
enough_needed e t xs some d n k = grind (arith, nat_tests, asks_two_iff (has xs) xs (own xs d), asks_one_iff (has xs) xs (own xs d))

-- what is forced by all that answer is forced by fewer of them, where these are what was asked for
forces_within : (r : Reading) (s t : ℕ → Bool) (u : ℕ) → Forces r t u → IsWithin s t → Asks r s → Forces r s u
forces_within r s t u f k a = grind (arith, nat_tests)

-- where a UID is forced, and so many answer, they are exactly as many as are needed, the UID among them
pub enough_forced : (e : Entry) (t : ℕ → Bool) (xs : List ℕ) (u : ℕ) → 0 < needs e → AreDifferent xs → needs e ≤ length xs → IsWithin (has xs) t → EntryForces (reading_of e) t u → (length xs ≡ needs e) × (has xs u ≡ true)
enough_forced Collision t xs u some d n k f = (forces_two_iff (has xs) xs u (own xs d)).0 (forces_within ManyReplies (has xs) t u f k (enough_needed Collision (has xs) xs some d n (λ v h. h)))
enough_forced Garbled t xs u some d n k f = (forces_one_iff (has xs) xs u (own xs d)).0 (forces_within SomeReply (has xs) t u f k (enough_needed Garbled (has xs) xs some d n (λ v h. h)))
enough_forced e t xs u some d n k f = absurd (omega arith)

-- two in a collision, one in a garbled slot
pub needs_two_or_one : (o : Option Entry) (n : ℕ) → needs_of o ≡ n → 0 < n → ((o ≡ Some Collision) × (n ≡ 2)) ⊎ ((o ≡ Some Garbled) × (n ≡ 1))
needs_two_or_one (Some Collision) n e lt = inl (refl, sym e)
needs_two_or_one (Some Garbled) n e lt = inr (refl, sym e)
needs_two_or_one o n e lt = absurd (omega arith)

-- an entry that forces a UID heard it, or needs tags
pub forces_cases : (e : Entry) (t : ℕ → Bool) (u : ℕ) → EntryForces (reading_of e) t u → (hears (Some e) u ≡ true) ⊎ (0 < needs e)
forces_cases (Heard r) t u f = inl (eq-eqb r.uid u f)
forces_cases (Captured r) t u f = inl (eq-eqb r.uid u f)
forces_cases Collision t u f = inr (omega arith)
forces_cases Garbled t u f = inr (omega arith)
forces_cases e t u f = absurd f

-- an entry that heard a UID forces it
pub hears_forces : (o : Option Entry) (u : ℕ) (t : ℕ → Bool) → hears o u ≡ true → (e : Entry) × (o ≡ Some e) × EntryForces (reading_of e) t u
hears_forces None u t h = absurd (false≢true h)
hears_forces (Some (Heard r)) u t h = (Heard r, refl, eqb-true r.uid u h)
hears_forces (Some (Captured r)) u t h = (Captured r, refl, eqb-true r.uid u h)
hears_forces (Some e) u t h = absurd (false≢true h)
