-- The main theorem says the same in the words of each version.
use Rattle.vic_verdict.proofs.Words.{◌≡◌, ◌⊎◌, inl, inr, ℕ, zero, suc, true, false, List, [], ◌∷◌, refl, arith, nat_tests, ⊎_elim, ◌↔◌, cases_eq, both_ways, false_from_ne_true, has, AreDifferent, Entry, LogLine, entries, IsPopulation, answers_at, CouldHaveGiven, is_quiet, has_here, has_there, has_cases, has_filter, AreDifferent-population, AreDifferent-filter, IsVerdict, Complete, filter_has, IsWhole, has_at, AreOfFirstVersion, IsOfFirstVersion, AreOfSecondVersion, IsOfSecondVersion, Captured, CouldHaveGivenFirst, Outcome, Nobody, Lone, Several, outcome_of, answerers_at, Fits, given-first, quiet-silenced}
use Rattle.vic_verdict.specs.Versions.{HasExactlyListed, IsWholeFirst, IsReady, Answers, AnswersAlone, SeveralAnswer, IsTrueOf, IsTrueOfThird, CouldHaveGivenSecond, CouldHaveGivenThird, IsWholeSecond, IsWholeThird}
use Rattle.vic_verdict.proofs.Decide.{IsPossible-iff, IsPossibleUid-iff, IsCertainUid-iff}
use Rattle.vic_verdict.proofs.Verdicts.{complete_whole}

-- ---- Ready tags

not_quiet-ready : (es : List Entry) (i u : ℕ) → is_quiet es i u ≡ false → IsReady es i u
not_quiet-ready es zero u h j below s = absurd (omega arith)
not_quiet-ready es (suc n) u h j below s = grind (arith, nat_tests, cases_eq, not_quiet-ready es n u)

ready-not_quiet : (es : List Entry) (i u : ℕ) → IsReady es i u → is_quiet es i u ≡ false
ready-not_quiet es i u r = false_from_ne_true _ (λ q. let s = quiet-silenced es i u q in let k = r s.0 s.1 s.2 in s.3 k.0 k.1 k.2 k.3)

-- ---- who answers

answers-iff : (p : List ℕ) (es : List Entry) (i u : ℕ) → Answers p es i u ↔ (has (answerers_at es i p) u ≡ true)
answers-iff p es i u = grind (arith, nat_tests, filter_has, has_filter (answers_at es i) p u, ready-not_quiet es i u, not_quiet-ready es i u)

-- ---- outcomes, by the members of a list

-- no tag answers, one does, or several, and that is the outcome
abbrev IsOutcome : List ℕ → List Entry → ℕ → Outcome → Type 0
IsOutcome p es i o =
    ((o ≡ Nobody) × ((u : ℕ) → Answers p es i u → ⊥))
    ⊎ (((x : ℕ) × (o ≡ Lone x) × AnswersAlone p es i x) ⊎ ((o ≡ Several) × SeveralAnswer p es i))

is_outcome : (p : List ℕ) (es : List Entry) (i : ℕ) (xs : List ℕ) → AreDifferent xs → ((u : ℕ) → Answers p es i u ↔ (has xs u ≡ true)) → IsOutcome p es i (outcome_of xs)
is_outcome p es i [] d is = inl (refl, λ u a. let h = (is u).0 a in cc)
is_outcome p es i (x ∷ []) d is = inr (inl (x, refl, ((is x).1 (has_here x []), λ v a. ⊎_elim (λ e. e) (λ k. cc) (has_cases v x [] ((is v).0 a)))))
is_outcome p es i (x ∷ y ∷ xs) d is = inr (inr (refl, (x, y, (λ e. both_ways _ d.0 (has_at x y xs e)), (is x).1 (has_here x (y ∷ xs)), (is y).1 (has_there y x (y ∷ xs) (has_here y xs)))))

told-iff : (p : List ℕ) (es : List Entry) (i : ℕ) (e : Entry) (us : List ℕ) → IsOutcome p es i (outcome_of us) → ((u : ℕ) → Answers p es i u ↔ (has us u ≡ true)) → Fits e us ↔ IsTrueOfThird p es i e
told-iff p es i (Captured r) us c all = ((all r.uid).1, (all r.uid).0)
told-iff p es i e us c all = grind (arith, nat_tests)

-- ---- what a population could have produced

given-third : (es : List Entry) (p : List ℕ) → IsPopulation p → CouldHaveGiven p es ↔ CouldHaveGivenThird p es
given-third es p pop =
    let told = λ (i : ℕ) (e : Entry). told-iff p es i e (answerers_at es i p) (is_outcome p es i (answerers_at es i p) (AreDifferent-filter (answers_at es i) p (AreDifferent-population p pop)) (answers-iff p es i)) (answers-iff p es i) in
    ((λ g i e k. (told i e).0 (g i e k)), (λ g i e k. (told i e).1 (g i e k)))

same_told : (p : List ℕ) (es : List Entry) (i : ℕ) (e : Entry) → IsOfSecondVersion e → IsTrueOf p es i e ↔ IsTrueOfThird p es i e
same_told p es i e h = grind (arith, nat_tests)

second-third : (es : List Entry) → AreOfSecondVersion es → (p : List ℕ) → CouldHaveGivenSecond p es ↔ CouldHaveGivenThird p es
second-third es h p = (
  (λ g i e k. (same_told p es i e (h i e k)).0 (g i e k)),
  (λ g i e k. (same_told p es i e (h i e k)).1 (g i e k)),
)

first_of_second : (e : Entry) → IsOfFirstVersion e → IsOfSecondVersion e
first_of_second e h = grind (arith, nat_tests)

-- the main theorem over relations that say the same about populations
same_headline : (F G : List ℕ → List Entry → Type 0) (es : List Entry) → ((p : List ℕ) → IsPopulation p → F p es ↔ G p es) → HasExactlyListed F es ↔ HasExactlyListed G es
same_headline F G es same = (
  (λ h. ((h.0.0, h.0.1, (same h.0.0 h.0.1).0 h.0.2), λ p pop g. h.1 p pop ((same p pop).1 g))),
  (λ h. ((h.0.0, h.0.1, (same h.0.0 h.0.1).1 h.0.2), λ p pop f. h.1 p pop ((same p pop).0 f))),
)

pub whole-third : (es : List Entry) → IsWhole es ↔ IsWholeThird es
whole-third es = same_headline CouldHaveGiven CouldHaveGivenThird es (given-third es)

pub whole_second-third : (es : List Entry) → AreOfSecondVersion es → IsWholeSecond es ↔ IsWholeThird es
whole_second-third es h = same_headline CouldHaveGivenSecond CouldHaveGivenThird es (λ p pop. second-third es h p)

pub first-second : (es : List Entry) → AreOfFirstVersion es → IsWholeFirst es ↔ IsWholeSecond es
first-second es h = same_headline CouldHaveGivenFirst CouldHaveGivenSecond es (λ p pop.
    let first = given-first es h p in
    let third = given-third es p pop in
    let second = second-third es (λ i e k. first_of_second e (h i e k)) p in
    ((λ g. second.1 (third.0 (first.1 g))), (λ g. first.0 (third.1 (second.0 g)))))

-- if the verdict is `Complete`, the main theorem for version 3 holds, and that for version 2 of its entries
pub complete_third : (lines : List LogLine) (count : ℕ) → IsVerdict lines (Complete count) → IsWholeThird (entries lines)
complete_third lines count h = (whole-third (entries lines)).0 (complete_whole lines count h)

pub complete_second : (lines : List LogLine) (count : ℕ) → IsVerdict lines (Complete count) → AreOfSecondVersion (entries lines) → IsWholeSecond (entries lines)
complete_second lines count h second = (whole_second-third (entries lines) second).1 (complete_third lines count h)

-- what the laws say
pub ruleset law_lemmas = (IsPossible-iff, IsPossibleUid-iff, IsCertainUid-iff, complete_whole, first-second)
