-- Possible logs, possible and certain UIDs, by the slots of a log.
use Rattle.vic_verdict.proofs.Words.{◌≡◌, ℕ, List, ◌++◌, true, Option, Some, None, refl, subst, eqb-true, false≢true, ◌↔◌, slice_get, filter, and_parts, has, AreDifferent, Entry, Heard, Captured, hears, Fits, answers_at, slots_of, OneReply, has_filter, AreDifferent-filter, AreDifferent-population, CouldHaveGiven-slots, IsPossible, IsCertainUid, fits_asks, CouldHaveGiven-front}
use Rattle.vic_verdict.proofs.Populations.{ArePossible, MustHave}

pub IsPossible-slots : (es : List Entry) → IsPossible es ↔ ArePossible (slots_of es)
IsPossible-slots es = simp CouldHaveGiven-slots ((λ h. h), (λ h. h))

pub IsCertainUid-slots : (es : List Entry) (u : ℕ) → IsCertainUid es u ↔ MustHave (slots_of es) u
IsCertainUid-slots es u = simp CouldHaveGiven-slots ((λ h. h), (λ h. h))

pub IsPossible-front : (es fs : List Entry) → IsPossible (es ++ fs) → IsPossible es
IsPossible-front es fs h = (h.0, h.1, CouldHaveGiven-front h.0 es fs h.2)

-- those who answer where a UID was heard include it
hears_answers : (o : Option Entry) (u : ℕ) (us : List ℕ) → AreDifferent us → hears o u ≡ true → ((e : Entry) → o ≡ Some e → Fits e us) → has us u ≡ true
hears_answers None u us d h f = absurd (false≢true h)
hears_answers (Some (Heard r)) u us d h f = subst (λ v. has us v ≡ true) (eqb-true r.uid u h) (fits_asks (OneReply r.uid) us d (f (Heard r) refl))
hears_answers (Some (Captured r)) u us d h f = subst (λ v. has us v ≡ true) (eqb-true r.uid u h) (f (Captured r) refl)
hears_answers (Some e) u us d h f = absurd (false≢true h)

-- a UID that was heard is certain
pub heard_certain : (es : List Entry) (i u : ℕ) → hears (slice_get es i) u ≡ true → IsCertainUid es u
heard_certain es i u h p q g =
    let answers = answers_at es i in
    (and_parts _ _ (has_filter answers p u (hears_answers (slice_get es i) u (filter answers p) (AreDifferent-filter answers p (AreDifferent-population p q)) h (λ e k. g i e k)))).0
