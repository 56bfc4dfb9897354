-- What is met makes a log possible, and UIDs certain.
use Rattle.vic_verdict.proofs.Words.{eq-eqb, ne_eqb, or_false, false, false≢true, cases_lt, nat_eq, or_cases, or_left, or_right, ◌≡◌, ℕ, ◌+◌, ◌<◌, ◌≤◌, ◌==◌, ◌&&◌, ◌||◌, ◌++◌, List, [], ◌∷◌, length, take, get_or, Bool, true, Some, sym, ap, ◌∙◌, arith, nat_tests, inl, inr, ◌↔◌, slice_get, Any, list_any, slice_get_within, list_any-append, list_any-from_Any, list_any_more, take_all, Any-from_list_any, has, Entry, hears, reading_of, slots_of, is_open, IsForcedBy, Answering, Met, IsPossible, answering, needs, needs_of, ◌⊎◌, IsFound, AreFound, HasEnough, All, AreAnswering, IsMet, SomeForces, IsHeard, AreBorneOut, AreDifferent, IsWithin}
use Rattle.std.proofs.Math.Bool.{or-false}
use Rattle.vic_log.proofs.Sets.{eq_swapped}
use Rattle.vic_verdict.proofs.Entries.{EntryForces, IsForcedBy-places, enough_forced, forces_cases, hears_forces}
use Rattle.vic_verdict.proofs.Gathering.{exact_forces, met_at}
use Rattle.vic_walk.proofs.ListLaws.{heard_past}
use Rattle.vic_walk.specs.Listing.{IsListFrom}
use Rattle.vic_verdict.proofs.Walking.{enough_found, found_met, supplied_met}
use Rattle.vic_verdict.proofs.Decide.{supplied_all}

-- ---- who was heard

-- the list has the UIDs that were heard before position i
abbrev pub HasHeard : List Entry → ℕ → List ℕ → Type 0
HasHeard es i us = (u : ℕ) → (has us u ≡ true) ↔ ((j : ℕ) × (j < i) × (hears (slice_get es j) u ≡ true))

-- an entry more, and whom it heard
pub heard_kept : (es : List Entry) (i : ℕ) (us : List ℕ) (e : Entry) → slice_get es i ≡ Some e → ((u : ℕ) → hears (Some e) u ≡ false) → HasHeard es i us → HasHeard es (i + 1) us
heard_kept es i us e k none h u =
    let before = h u in
    let no : hears (slice_get es i) u ≡ false = ap (λ o. hears o u) k ∙ none u in (
      (λ there. let w = before.0 there in (w.0, omega (arith, w.1), w.2)),
      (λ w. elim (cases_lt w.0 i) [
        | inl less ↦ before.1 (w.0, less, w.2)
        | inr more ↦ let same : w.0 ≡ i = omega (arith, w.1) in absurd (false≢true (sym no ∙ (rw same at w.2)))
      ]),
    )

pub heard_pushed : (es : List Entry) (i : ℕ) (us : List ℕ) (e : Entry) (v : ℕ) → slice_get es i ≡ Some e → ((u : ℕ) → hears (Some e) u ≡ (v == u)) → HasHeard es i us → HasHeard es (i + 1) (us ++ v ∷ [])
heard_pushed es i us e v k own h u =
    let before = h u in
    let here : hears (slice_get es i) u ≡ (v == u) = ap (λ o. hears o u) k ∙ own u in
    let all : has (us ++ v ∷ []) u ≡ (has us u || v == u) = list_any-append (nat_eq u) us (v ∷ []) ∙ ap (λ b. has us u || b) (or-false (nat_eq u v) ∙ eq_swapped u v) in (
      (λ there. elim (or_cases _ _ (sym all ∙ there)) [
        | inl old ↦ let w = before.0 old in (w.0, omega (arith, w.1), w.2)
        | inr new ↦ (i, omega arith, here ∙ new)
      ]),
      (λ w. all ∙ elim (cases_lt w.0 i) [
        | inl less ↦ or_left _ _ (before.1 (w.0, less, w.2))
        | inr more ↦ let same : w.0 ≡ i = omega (arith, w.1) in or_right _ _ (sym here ∙ (rw same at w.2))
      ]),
    )

-- where the list begins, all that were heard are known
pub heard_at_list : (es : List Entry) (n : ℕ) (us : List ℕ) → IsListFrom es n → HasHeard es n us → (u : ℕ) → (has us u ≡ true) ↔ IsHeard es u
heard_at_list es n us list h u =
    let before = h u in (
      (λ there. let w = before.0 there in (w.0, w.2)),
      (λ w. elim (cases_lt w.0 n) [
        | inl less ↦ before.1 (w.0, less, w.1)
        | inr past ↦ absurd (false≢true (sym (heard_past es n w.0 u list past) ∙ w.1))
      ]),
    )

-- ---- what makes a log possible

-- what was found for an entry that needs tags: different UIDs that answer there, as many as it needs
abbrev IsEnough : List Entry → ℕ → Entry → Answering → Type 0
IsEnough es i e f = AreDifferent f.uids.items × (needs e ≡ f.need) × (needs e ≤ length f.uids.items) × IsWithin (has f.uids.items) (answering (is_open (slots_of es)) es i)

met_found : (es : List Entry) (fs : List Answering) (i : ℕ) (e : Entry) → AreFound es fs → slice_get es i ≡ Some e → 0 < needs e → Any (IsEnough es i e) fs
met_found es fs i e a k some =
    let w = met_at es fs i a (rw k some) in
    let need : needs e ≡ w.1.need = ap needs_of (sym k) ∙ w.5 in
    (w.0, w.1, w.2, w.3, (w.6.different, need, omega (arith, w.4.enough), w.6.members))

-- where the replies are borne out, and the unread slots are met, the log is possible
pub met_all : (es : List Entry) (m : Met) → AreBorneOut es (length es) → ((u : ℕ) → (has m.heard.items u ≡ true) ↔ IsHeard es u) → AreAnswering es (length es) m.unread.items → All HasEnough m.unread.items → IsPossible es × IsMet es m
met_all es m borne heard unread enough = (
  supplied_all es (λ i e below k. supplied_met es (length es) i e borne (found_met es m.unread.items unread enough) below k),
  record { heard = heard; unread = unread; enough = enough },
)

-- ---- what makes a UID certain

-- exactly as many were found as are needed, the UID among them
abbrev pub is_exact : ℕ → Answering → Bool
is_exact u f = (length f.uids.items == f.need) && has f.uids.items u

-- the list has the UIDs that were heard, and those of the found that are exactly as many as it takes
abbrev pub HasCertain : List ℕ → List Answering → List ℕ → Type 0
HasCertain heard fs us = (u : ℕ) → has us u ≡ (has heard u || list_any (is_exact u) fs)

pub exact_added : (us : List ℕ) (f : Answering) (u : ℕ) → length f.uids.items ≡ f.need → has (us ++ f.uids.items) u ≡ (has us u || is_exact u f)
exact_added us f u exact = list_any-append (nat_eq u) us f.uids.items ∙ ap (λ b. has us u || (b && has f.uids.items u)) (sym (eq-eqb _ _ exact))

pub not_exact : (us : List ℕ) (f : Answering) (u : ℕ) → (length f.uids.items ≡ f.need → ⊥) → has us u ≡ (has us u || is_exact u f)
not_exact us f u other = sym (ap (λ b. has us u || (b && has f.uids.items u)) (ne_eqb _ _ other) ∙ or_false (has us u))

pub certain_more : (heard old new : List ℕ) (fs : List Answering) (k : ℕ) (f : Answering) → k < length fs → f ≡ get_or fs k f → ((u : ℕ) → has new u ≡ (has old u || is_exact u f)) → HasCertain heard (take k fs) old → HasCertain heard (take (k + 1) fs) new
certain_more heard old new fs k f below is adds h u =
    rw (list_any_more (is_exact u) fs k f below, ← is) (grind (arith, nat_tests, h u, adds u))

-- the UID was heard, or some slot requires it
abbrev pub IsForcedByMet : Met → ℕ → Type 0
IsForcedByMet m u = (has m.heard.items u ≡ true) ⊎ SomeForces m.unread.items u

pub certain_met : (m : Met) (us : List ℕ) (k : ℕ) → length m.unread.items ≤ k → HasCertain m.heard.items (take k m.unread.items) us → (u : ℕ) → (has us u ≡ true) ↔ IsForcedByMet m u
certain_met m us k long h u =
    let is : has us u ≡ (has m.heard.items u || list_any (is_exact u) m.unread.items) = rw (take_all k m.unread.items long) at (h u) in
    grind (arith, nat_tests, Any-from_list_any (is_exact u) m.unread.items, list_any-from_Any (is_exact u) m.unread.items)

-- a UID is forced where it was met
pub forced_iff : (es : List Entry) (m : Met) (u : ℕ) → IsMet es m → IsForcedBy (is_open (slots_of es)) (slots_of es) u ↔ IsForcedByMet m u
forced_iff es m u met = (
  (λ f.
      let w = (IsForcedBy-places (is_open (slots_of es)) es (length es) u).0 f in
      elim (forces_cases w.1 _ u w.4) [
        | inl x ↦ inl ((met.heard u).1 (w.0, ap (λ o. hears o u) w.3 ∙ x))
        | inr some ↦
            let y = met_found es m.unread.items w.0 w.1 all w.3 some in
            let x = enough_forced w.1 _ y.1.uids.items u some y.4.0 y.4.2 y.4.3 w.4 in
            inr (y.0, y.1, y.2, y.3, (x.0 ∙ y.4.1, x.1))
      ]),
  (λ x. elim x [
    | inl heard ↦ let w = (met.heard u).0 heard in let x = hears_forces (slice_get es w.0) u (answering (is_open (slots_of es)) es w.0) w.1 in there w.0 x.0 x.1 x.2
    | inr some ↦
        let found : IsFound es some.1 = rw some.3 at (all.found some.0 some.1 some.2) in
        let w = exact_forces es u some.1 found some.4.0 some.4.1 in
        there some.1.at w.0 w.1 w.2
  ]),
) where
  all : AreFound es m.unread.items
  all = enough_found es m.unread.items met.unread met.enough

  there : (i : ℕ) (e : Entry) → slice_get es i ≡ Some e → EntryForces (reading_of e) (answering (is_open (slots_of es)) es i) u → IsForcedBy (is_open (slots_of es)) (slots_of es) u
  there i e k f = (IsForcedBy-places (is_open (slots_of es)) es (length es) u).1 (i, e, slice_get_within es i e k, k, f)
