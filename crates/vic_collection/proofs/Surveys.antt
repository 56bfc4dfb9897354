-- What surveys say is what their logs say.
use Rattle.vic_collection.proofs.Words.{◌≡◌, ◌<◌, ◌≤◌, ◌+◌, ℕ, suc, zero, List, [], ◌∷◌, ◌++◌, Bool, true, false, ◌||◌, ◌&&◌, not, cond, ne_eqb, append-nil, Some, None, Option, refl, sym, ap, subst, ◌∙◌, arith, ⊎_elim, ◌↔◌, Any, AllZip, slice_get, get_or, length, both_ways, false≢true, has, has_here, has_there, IsUid, IsUid-member, list_any, list_any_at, Any-from_list_any, list_any-from_Any, slice_get-get_or, IsStrictlyIncreasing, place_of, entries, LogLine, lines_of_text, SurveyValue, HasPossibleLog, IsSurveyOf, IsCertainIn, IsCertainUid, IsPossibleIn, IsPossibleUid}
use Rattle.std.proofs.lemmas.Bool.{or_cases}
use Rattle.std.specs.List.{slice_index}
use Rattle.vic_frame.specs.Masks.{lies_in}
use Rattle.vic_log.specs.declared.entry.Entry.{Entry}
use Rattle.vic_log.specs.declared.fault.LineFault.{LineFault}
use Rattle.vic_log.specs.Log.{last_from}
use Rattle.vic_log.specs.LineReading.{line_reading}
use Rattle.vic_log.specs.Order.{IsRisingFrom}
use Rattle.vic_log.specs.Text.{entry_line, log_upto, logged, version_of}
use Rattle.vic_log.proofs.One.{not_both}
use Rattle.vic_log.proofs.Push.{last_from-push, rising-push}
use Rattle.vic_tree.proofs.OpenMaskLaws.{held}
use Rattle.vic_verdict.specs.Possible as one
use Rattle.vic_verdict.specs.Rising.{IsListOf}
use Rattle.vic_verdict.proofs.Verdicts.{possible_to}
use Rattle.vic_report.specs.Findings.{uids_of}
use Rattle.vic_survey.specs.Making.{HasUncertain, IsFieldOf}
use Rattle.vic_survey.specs.declared.survey.SurveyedField.{SurveyedField}
use Rattle.vic_survey.specs.declared.survey.SurveyedField.TheVariants.{Refused, Impossible, Possible}
use Rattle.vic_survey.specs.declared.survey.FieldFacts.{FieldFacts}
use Rattle.vic_collection.specs.Against.{IsLogWith, IsUndecidedIn}
use Rattle.vic_collection.specs.Collections.{is_certain_by, is_certain_in, is_not_possible, is_possible_by, is_possible_in, is_undecided_in, positions_from}
use Rattle.vic_collection.proofs.Families.{any_back, any_zip, beside, beside_back, certain_in_some, possible_in_some}
use Rattle.vic_collection.proofs.Halves.{position_at}
use Rattle.vic_collection.proofs.Texts.{any_may_be, certain_as, one_may_be, possible_as}
use Rattle.std.specs.Prelude.{Err, Ok, Result}

-- ---- the lines of a log are numbered in rising order

abbrev IsRisingTo : ℕ → List LogLine → Type 0
IsRisingTo n lines = IsRisingFrom 0 lines × (last_from 0 lines ≤ n)

entry_rises : (lines : List LogLine) (k : ℕ) (r : Result (Option Entry) LineFault) → IsRisingTo k lines → IsRisingTo (suc k) (lines ++ entry_line (suc k) r)
entry_rises lines k (Ok (Some e)) up =
    let line : LogLine = record { number = suc k; item = e } in
    let low = up.1 in
    (rising-push 0 lines line up.0 (omega (arith, low)), (let last = last_from-push 0 lines line in omega (arith, last)))
entry_rises lines k (Ok None) up = let low = up.1 in rw append-nil (up.0, omega (arith, low))
entry_rises lines k (Err f) up = let low = up.1 in rw append-nil (up.0, omega (arith, low))

log_rises : (lines : List (List ℕ)) (n : ℕ) → IsRisingTo n (log_upto lines n)
log_rises lines zero = (tt, omega arith)
log_rises lines (suc k) = next k (slice_get lines k) (log_rises lines k) where
  next : (k : ℕ) (o : Option (List ℕ)) → IsRisingTo k (log_upto lines k) → IsRisingTo (suc k) (log_upto lines k ++ logged (version_of lines) (suc k) o)
  next k None up = let low = up.1 in rw append-nil (up.0, omega (arith, low))
  next zero (Some line) up = let low = up.1 in (up.0, omega (arith, low))
  next (suc k) (Some line) up =
      let made : List LogLine = entry_line (suc (suc k)) (line_reading (version_of lines) line) in
      subst (λ (b : Bool). IsRisingTo (suc (suc k)) (log_upto lines (suc k) ++ cond b [] made)) (sym (ne_eqb (suc (suc k)) 1 (λ e. omega (arith, e)))) (entry_rises (log_upto lines (suc k)) (suc k) (line_reading (version_of lines) line) up)

-- ---- of one log

pub no_log : (text : List ℕ) (f : SurveyedField) → IsFieldOf text f → is_not_possible f ≡ true → HasPossibleLog text → ⊥
no_log text (Possible s) w silent h = false≢true silent
no_log text (Refused n fault) w silent h = not_both (lines_of_text text) n w.0 h.log w.1 h.is_log
no_log text (Impossible n) w silent h =
    let lines = lines_of_text text in
    let same : w.0.lines ≡ h.log.lines = w.1.all ∙ sym h.is_log.all in
    let up : IsRisingFrom 0 w.0.lines = subst (IsRisingFrom 0) (sym w.1.all) (log_rises lines (length lines)).0 in
    w.2.0 (possible_to w.0.lines up (subst (λ (ls : List LogLine). one.IsPossible (entries ls)) (sym same) h.possible) n)

pub its_log : (text : List ℕ) (f : SurveyedField) → IsFieldOf text f → is_not_possible f ≡ false → HasPossibleLog text
its_log text (Possible s) w tells = record { log = w.0; is_log = w.1; possible = w.2.possible }
its_log text (Refused n fault) w tells = absurd (false≢true (sym tells))
its_log text (Impossible n) w tells = absurd (false≢true (sym tells))

pub certain_in : (text : List ℕ) (f : SurveyedField) → IsFieldOf text f → (u : ℕ) → (is_certain_by f u ≡ true) ↔ IsCertainIn u text
certain_in text (Possible s) w u =
    let is = certain_as text w.0 w.1 w.2.possible u in
    let says = w.2.certain.members u in
    ((λ h. is.1 (says.0 h)), (λ c. says.1 (is.0 c)))
certain_in text (Refused n fault) w u = ((λ h. absurd (false≢true h)), (λ c. c [] (any_may_be text (no_log text (Refused n fault) w refl) [] tt)))
certain_in text (Impossible n) w u = ((λ h. absurd (false≢true h)), (λ c. c [] (any_may_be text (no_log text (Impossible n) w refl) [] tt)))

module _ (text : List ℕ) (s : FieldFacts) (w : IsFieldOf text (Possible s)) (u : ℕ) (is : IsUid u) where
  told : is_possible_by (Possible s) u ≡ true → one.IsPossibleUid (entries w.0.lines) u
  told h = ⊎_elim
      (λ c. let p = w.2.possible in (p.0, p.1, p.2, (w.2.certain.members u).0 c p.0 p.1 p.2))
      (λ o.
      let m = Any-from_list_any (λ m. lies_in m u) s.«open» o in
      let wanted = w.2.masks.all.wanted m.0 m.1 m.2 in
      (w.2.masks.uids u is).0 (wanted.0.open_throughout u is (ap (λ k. lies_in k u) m.3 ∙ m.4)))
      (or_cases (has (uids_of s.certain) u) (list_any (λ m. lies_in m u) s.«open») h)

  tells : one.IsPossibleUid (entries w.0.lines) u → is_possible_by (Possible s) u ≡ true
  tells possible = go (has (uids_of s.certain) u) refl where
    go : (b : Bool) → has (uids_of s.certain) u ≡ b → (b || list_any (λ m. lies_in m u) s.«open») ≡ true
    go true e = refl
    go false e =
        let mask = held w.2.masks.set u is ((w.2.masks.uids u is).1 possible) in
        let uncertain : HasUncertain (entries w.0.lines) mask.0 = (u, is, mask.2, λ c. both_ways (has (uids_of s.certain) u) e ((w.2.certain.members u).1 c)) in
        let among = w.2.masks.all.others mask.0 (mask.1, uncertain) in
        list_any_at (λ m. lies_in m u) s.«open» among.0 mask.0 among.1 (ap (λ m. lies_in m u) among.2 ∙ mask.2)

pub possible_in : (text : List ℕ) (f : SurveyedField) → IsFieldOf text f → (u : ℕ) → IsUid u → (is_possible_by f u ≡ true) ↔ IsPossibleIn u text
possible_in text (Possible s) w u is =
    let may = possible_as text w.0 w.1 w.2.possible u in
    ((λ h. may.1 (told text s w u is h)), (λ p. tells text s w u is (may.0 p)))
possible_in text (Refused n fault) w u is = ((λ h. one_may_be text (no_log text (Refused n fault) w refl) u is), (λ p. refl))
possible_in text (Impossible n) w u is = ((λ h. one_may_be text (no_log text (Impossible n) w refl) u is), (λ p. refl))

pub undecided_in : (text : List ℕ) (s : SurveyValue) → IsSurveyOf text s → (u : ℕ) → IsUid u → (is_undecided_in s u ≡ true) ↔ IsUndecidedIn u text
undecided_in text s w u is = go (is_possible_in s u) (is_certain_in s u) (possible_in text s.field w u is) (certain_in text s.field w u) where
  go : (a b : Bool) → (a ≡ true) ↔ IsPossibleIn u text → (b ≡ true) ↔ IsCertainIn u text → ((a && not b) ≡ true) ↔ IsUndecidedIn u text
  go true true p c = ((λ h. absurd (false≢true h)), (λ h. absurd (h.1 (c.0 refl))))
  go true false p c = ((λ h. (p.0 refl, λ k. false≢true (c.1 k))), (λ h. refl))
  go false b p c = ((λ h. absurd (false≢true h)), (λ h. p.1 h.0))

-- ---- of all logs

module _ (texts : List (List ℕ)) (surveys : List SurveyValue) (says : AllZip IsSurveyOf texts surveys) (u : ℕ) where
  any_of : (test : SurveyValue → Bool) (P : List ℕ → Type 0) → ((text : List ℕ) (s : SurveyValue) → IsSurveyOf text s → (test s ≡ true) ↔ P text) → (list_any test surveys ≡ true) ↔ Any P texts
  any_of test P same = (
    (λ h. any_back IsSurveyOf P (λ s. test s ≡ true) texts surveys (λ text s w. (same text s w).0) says (Any-from_list_any test surveys h)),
    (λ a. list_any-from_Any test surveys (any_zip IsSurveyOf P (λ s. test s ≡ true) texts surveys (λ text s w. (same text s w).1) says a)),
  )

  pub certain_somewhere : (list_any (λ s. is_certain_in s u) surveys ≡ true) ↔ IsCertainUid texts u
  certain_somewhere =
      let some = any_of (λ s. is_certain_in s u) (IsCertainIn u) (λ text s w. certain_in text s.field w u) in
      let all = certain_in_some texts u in
      ((λ h. all.1 (some.0 h)), (λ c. some.1 (all.0 c)))

  pub possible_somewhere : IsUid u → (list_any (λ s. is_possible_in s u) surveys ≡ true) ↔ IsPossibleUid texts u
  possible_somewhere is =
      let some = any_of (λ s. is_possible_in s u) (IsPossibleIn u) (λ text s w. possible_in text s.field w u is) in
      let all = possible_in_some texts u in
      ((λ h. all.1 (some.0 h)), (λ c. some.1 (all.0 c)))

pub is_uid_of : (texts : List (List ℕ)) (u : ℕ) → IsPossibleUid texts u → IsUid u
is_uid_of texts u h = let a = (possible_in_some texts u).0 h in IsUid-member a.4.0 u a.4.1.0 a.4.2

-- ---- the positions of logs

module _ {X : Type 0} (test : X → Bool) where
  position_has : (k : ℕ) (xs : List X) (j : ℕ) (x : X) → slice_get xs j ≡ Some x → test x ≡ true → has (positions_from test k xs) (k + j) ≡ true
  position_has k [] j x at is = absurd cc
  position_has k (y ∷ xs) zero x at is =
      let same : y ≡ x = cc in
      let e : k + 0 ≡ k = omega arith in
      rw (e, ap test same, is) (has_here k (positions_from test (k + 1) xs))
  position_has k (y ∷ xs) (suc j) x at is = go (test y) (let e : (k + 1) + j ≡ k + suc j = omega arith in subst (λ n. has (positions_from test (k + 1) xs) n ≡ true) e (position_has (k + 1) xs j x at is)) where
    go : (b : Bool) → has (positions_from test (k + 1) xs) (k + suc j) ≡ true → has (cond b (k ∷ positions_from test (k + 1) xs) (positions_from test (k + 1) xs)) (k + suc j) ≡ true
    go true h = has_there (k + suc j) k (positions_from test (k + 1) xs) h
    go false h = h

  rises-cons : (k : ℕ) (us : List ℕ) → ((i n : ℕ) → slice_get us i ≡ Some n → k < n) → IsStrictlyIncreasing us → IsStrictlyIncreasing (k ∷ us)
  rises-cons k us above up zero lt = let some : 0 < length us = omega (arith, lt) in above 0 (get_or us 0 0) (slice_get-get_or us 0 0 some)
  rises-cons k us above up (suc i) lt =
      let next : suc i + 1 ≡ suc (i + 1) = omega arith in
      subst (λ n. slice_index (k ∷ us) (suc i) < slice_index (k ∷ us) n) (sym next) (up i (omega (arith, lt)))

  positions_rise : (k : ℕ) (xs : List X) → IsStrictlyIncreasing (positions_from test k xs)
  positions_rise k [] = λ i lt. absurd (omega arith)
  positions_rise k (x ∷ xs) = go (test x) (positions_rise (k + 1) xs) where
    go : (b : Bool) → IsStrictlyIncreasing (positions_from test (k + 1) xs) → IsStrictlyIncreasing (cond b (k ∷ positions_from test (k + 1) xs) (positions_from test (k + 1) xs))
    go true up = rises-cons k (positions_from test (k + 1) xs) (λ i n at. let p = position_at test (k + 1) xs i n at in omega (arith, p.1)) up
    go false up = up

-- those of the surveys that pass a test are those of the logs with a property
pub positions_of : (texts : List (List ℕ)) (surveys : List SurveyValue) → AllZip IsSurveyOf texts surveys → (test : SurveyValue → Bool) (P : List ℕ → Type 0) → ((text : List ℕ) (s : SurveyValue) → IsSurveyOf text s → (test s ≡ true) ↔ P text) → IsListOf (IsLogWith P texts) (positions_from test 0 surveys)
positions_of texts surveys says test P same = record {
  rising = positions_rise test 0 surveys;
  members = λ k. (
    (λ h.
        let logs = positions_from test 0 surveys in
        let i = place_of logs k 0 h in
        let p = position_at test 0 surveys i.0 k (slice_get-get_or logs i.0 0 i.1 ∙ ap Some i.2) in
        let e : k ≡ p.0 = omega (arith, p.1) in
        let b = beside_back IsSurveyOf texts surveys p.0 p.2.0 says p.2.1 in
        (b.0, ap (slice_get texts) e ∙ b.1, (same b.0 p.2.0 b.2).0 p.2.2)),
    (λ h.
        let b = beside IsSurveyOf texts surveys k h.0 says h.1 in
        let e : 0 + k ≡ k = omega arith in
        subst (λ n. has (positions_from test 0 surveys) n ≡ true) e (position_has test 0 surveys k b.0 b.1 ((same h.0 b.0 b.2).1 h.2))),
  );
}
