-- Which populations may have been in the field of one log, by its text.
use Rattle.vic_collection.proofs.Words.{◌≡◌, ℕ, List, [], ◌∷◌, Bool, true, false, refl, sym, subst, ◌∙◌, inl, inr, ⊎_elim, ◌⊎◌, ◌↔◌, has, has_here, both_ways, false_from_ne_true, IsUid, IsUid-member, entries, LogLine, LogValue, lines_of_text, IsLogOf, IsPopulation, CouldHaveGiven, HasPossibleLog, MayHaveBeen, IsCertainIn, IsPossibleIn}
use Rattle.vic_frame.specs.Uids.{is_uid}
use Rattle.vic_log.proofs.One.{not_both, some_answer}
use Rattle.vic_log.proofs.Places.{CouldHaveGiven-slots}
use Rattle.vic_log.proofs.Supply.{IsUid-from, is_uid_from}
use Rattle.vic_log.specs.Slots.{slots_of}
use Rattle.vic_verdict.specs.Possible as one
use Rattle.vic_verdict.proofs.Decide.{IsPossible-either, IsPossibleUid-either}
use Rattle.vic_verdict.proofs.Populations.{MustHave-cases, MustHave-iff, population_without}
use Rattle.vic_verdict.proofs.Possibility.{IsCertainUid-slots, IsPossible-slots}

-- a text has a possible log or none
pub possible_or_not : (text : List ℕ) → HasPossibleLog text ⊎ (HasPossibleLog text → ⊥)
possible_or_not text = ⊎_elim
    (λ found. inr (λ h. not_both (lines_of_text text) found.0 found.1 h.log found.2 h.is_log))
    (λ read. ⊎_elim
    (λ p. inl (record { log = read.0; is_log = read.1; possible = p }))
    (λ never. inr (λ h. never (subst (λ (lines : List LogLine). one.IsPossible (entries lines)) (h.is_log.all ∙ sym read.1.all) h.possible)))
    (IsPossible-either (entries read.0.lines)))
    (some_answer (lines_of_text text))

-- ---- of a possible log

module _ (text : List ℕ) (log : LogValue) (is : IsLogOf (lines_of_text text) log) where
  pub may_be : (p : List ℕ) → IsPopulation p → CouldHaveGiven p (entries log.lines) → MayHaveBeen p text
  may_be p i given = (i, λ other is_other possible. let same : log.lines ≡ other.lines = is.all ∙ sym is_other.all in subst (λ (lines : List LogLine). CouldHaveGiven p (entries lines)) same given)

  pub certain_as : one.IsPossible (entries log.lines) → (u : ℕ) → IsCertainIn u text ↔ one.IsCertainUid (entries log.lines) u
  certain_as possible u = ((λ c p i given. c p (may_be p i given)), (λ c p m. c p m.0 (m.1 log is possible)))

  pub possible_as : one.IsPossible (entries log.lines) → (u : ℕ) → IsPossibleIn u text ↔ one.IsPossibleUid (entries log.lines) u
  possible_as possible u = ((λ h. (h.0, h.1.0, h.1.1 log is possible, h.2)), (λ h. (h.0, may_be h.0 h.1 h.2, h.3)))

-- ---- of a text without one

pub any_may_be : (text : List ℕ) → (HasPossibleLog text → ⊥) → (p : List ℕ) → IsPopulation p → MayHaveBeen p text
any_may_be text never p i = (i, λ log is possible. absurd (never (record { log = log; is_log = is; possible = possible })))

pub one_may_be : (text : List ℕ) → (HasPossibleLog text → ⊥) → (u : ℕ) → IsUid u → IsPossibleIn u text
one_may_be text never u is = (u ∷ [], any_may_be text never (u ∷ []) (is, refl, tt), has_here u [])

-- ---- of any text

-- some population that may have been there lacks the UID, unless that is certain
pub certain_or_without : (u : ℕ) (text : List ℕ) → (p : List ℕ) × MayHaveBeen p text × (IsCertainIn u text ⊎ (has p u ≡ false))
certain_or_without u text = ⊎_elim
    (λ h.
    let slots = slots_of (entries h.log.lines) in
    let q = (IsPossible-slots (entries h.log.lines)).0 h.possible in
    ⊎_elim
    (λ a. let r = population_without slots u a in (r.0, may_be text h.log h.is_log r.0 r.1 ((CouldHaveGiven-slots r.0 (entries h.log.lines)).1 r.2), inr (false_from_ne_true _ r.3)))
    (λ f. let p = h.possible in (p.0, may_be text h.log h.is_log p.0 p.1 p.2, inl ((certain_as text h.log h.is_log h.possible u).1 ((IsCertainUid-slots (entries h.log.lines) u).1 ((MustHave-iff slots u q).1 f)))))
    (MustHave-cases slots u q))
    (λ never. ([], any_may_be text never [] tt, inr refl))
    (possible_or_not text)

-- some population that may have been there has the UID, if that is possible
pub with_possible : (u : ℕ) (text : List ℕ) → (p : List ℕ) × MayHaveBeen p text × (IsPossibleIn u text → has p u ≡ true)
with_possible u text = ⊎_elim
    (λ h. ⊎_elim
    (λ w. (w.0, may_be text h.log h.is_log w.0 w.1 w.2, λ again. w.3))
    (λ none. let p = h.possible in (p.0, may_be text h.log h.is_log p.0 p.1 p.2, λ may. absurd (none ((possible_as text h.log h.is_log h.possible u).0 may))))
    (IsPossibleUid-either (entries h.log.lines) u h.possible))
    (λ never. anyone never (is_uid u) refl)
    (possible_or_not text)
  where
    anyone : (HasPossibleLog text → ⊥) → (b : Bool) → is_uid u ≡ b → (p : List ℕ) × MayHaveBeen p text × (IsPossibleIn u text → has p u ≡ true)
    anyone never true e = let w = one_may_be text never u (IsUid-from u e) in (w.0, w.1, λ again. w.2)
    anyone never false e = ([], any_may_be text never [] tt, λ may. absurd (both_ways (is_uid u) e (is_uid_from u (IsUid-member may.0 u may.1.0 may.2))))
