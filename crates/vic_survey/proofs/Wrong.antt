-- Lines that no surveys have.
use Rattle.vic_survey.proofs.RunWords.{All-from_recursion, AllByRecursion, recursion_from_All, List, None, Option, Some, [], ap, arith, append_assoc, append-nil, false, true, length, length-append, nat_tests, flat_map, refl, subst, sym, ℕ, ◌++◌, ◌+◌, ◌∙◌, ◌∷◌, ◌≡◌, and_then, lf, joined, SurveyValue, lines_before, seal, survey_lines, text_of, BeginsSome, IsTextOfSome, IsOneLine, IsWrongAfter, IsFirstWrong, AreSurveys, IsSurvey, State, step, run, start, so_far, lines_of, IsState, IsReached, has}
use Rattle.vic_survey.proofs.Joined.{joined-append}
use Rattle.vic_survey.proofs.Spelled.{then_some}
use Rattle.vic_survey.proofs.Single.{both_single, lines_single, seal_single, joined_front}
use Rattle.vic_survey.proofs.Runs.{step_more, run-append}
use Rattle.vic_survey.proofs.Complete.{surveys_run, can_go_on}
use Rattle.std.proofs.Common.{inl, inr, eqb-true, ◌==◌, Bool, not}
use Rattle.std.specs.Prelude.{is_some, IfSome}
use Rattle.vic_survey.specs.declared.begun.Begun.{Begun}

-- all lines of surveys are without LF
surveys_single : (ss : List SurveyValue) → AllByRecursion IsSurvey ss → AllByRecursion IsOneLine (flat_map survey_lines ss)
surveys_single [] h = tt
surveys_single (s ∷ ss) h = both_single (survey_lines s) (flat_map survey_lines ss) (both_single (lines_before s) (seal (lines_before s) ∷ []) (lines_single s h.0) (seal_single (lines_before s), tt)) (surveys_single ss h.1)

joined_none : (lines : List (List ℕ)) → joined lines ≡ [] → lines ≡ []
joined_none [] e = refl
joined_none (l ∷ lines) e = absurd (omega (arith, ap length e, length-append l (lf ∷ joined lines)))

has_lf : (l xs : List ℕ) → has (l ++ lf ∷ xs) lf ≡ true
has_lf [] xs = refl
has_lf (b ∷ l) xs = grind (arith, nat_tests, has_lf l xs)

rest_empty : (lines : List (List ℕ)) (rest : List ℕ) → joined lines ≡ rest → IsOneLine rest → rest ≡ []
rest_empty [] rest e one = sym e
rest_empty (l ∷ lines) rest e one = absurd (cc (has_lf l (joined lines), ap (λ xs. has xs lf) e, one))

-- lines that some text of surveys begins with are read
pub read_of_some : (lines : List (List ℕ)) → AllByRecursion IsOneLine lines → BeginsSome (joined lines) → (st : State) × (run start lines ≡ Some st)
read_of_some lines h b =
    let ss = b.0 in
    let all = recursion_from_All IsSurvey ss b.2 in
    let front = joined_front (flat_map survey_lines ss) lines b.1 (surveys_single ss all) h b.3 in
    let whole : run start (lines ++ front.0) ≡ Some (record { done = ss; begun = None }) = ap (run start) (sym front.1) ∙ surveys_run [] ss all in
    let cut = then_some (run start lines) (λ st. run st front.0) (record { done = ss; begun = None }) (sym (run-append start lines front.0) ∙ whole) in
    (cut.0, cut.1)

-- a line that isn't read is one that no text of surveys has there
pub no_step : (st : State) (line : List ℕ) → IsReached st → AllByRecursion IsOneLine (so_far st) → IsOneLine line → step st line ≡ None → BeginsSome (joined (so_far st) ++ (line ++ lf ∷ [])) → ⊥
no_step st line reached single one none b =
    let lines = so_far st ++ line ∷ [] in
    let text : joined lines ≡ joined (so_far st) ++ (line ++ lf ∷ []) = joined-append (so_far st) (line ∷ []) in
    let read = read_of_some lines (both_single (so_far st) (line ∷ []) single (one, tt)) (subst BeginsSome (sym text) b) in
    let last : and_then (run start (so_far st)) (λ x. run x (line ∷ [])) ≡ Some read.0 = sym (run-append start (so_far st) (line ∷ [])) ∙ read.1 in
    let stepped : and_then (step st line) (λ x. run x []) ≡ Some read.0 = rw reached.1 at last in
    absurd (cc (rw none at stepped))

-- the surveys of a text that was read to its end are those that were read
pub only_read : (st : State) (ss : List SurveyValue) → IsReached st → AllByRecursion IsOneLine (so_far st) → AreSurveys ss → text_of ss ≡ joined (so_far st) → st ≡ record { done = ss; begun = None }
only_read st ss reached single valid e =
    let all = recursion_from_All IsSurvey ss valid in
    let front = joined_front (flat_map survey_lines ss) (so_far st) [] (surveys_single ss all) single (e ∙ sym (append-nil (joined (so_far st)))) in
    let no_more : front.0 ≡ [] = joined_none front.0 front.2 in
    let same : flat_map survey_lines ss ≡ so_far st = front.1 ∙ ap (λ xs. so_far st ++ xs) no_more ∙ append-nil (so_far st) in
    let whole : run start (so_far st) ≡ Some (record { done = ss; begun = None }) = ap (run start) (sym same) ∙ surveys_run [] ss all in
    cc (reached.1, whole)

-- no text of surveys ends in a line without LF
pub no_rest : (st : State) (rest : List ℕ) → IsReached st → AllByRecursion IsOneLine (so_far st) → IsOneLine rest → (rest ≡ [] → st.begun ≡ None → ⊥) → IsTextOfSome (joined (so_far st) ++ rest) → ⊥
no_rest st rest reached single one unfinished b =
    let ss = b.0 in
    let all = recursion_from_All IsSurvey ss b.1 in
    let front = joined_front (flat_map survey_lines ss) (so_far st) rest (surveys_single ss all) single b.2 in
    let empty : rest ≡ [] = rest_empty front.0 rest front.2 one in
    let st_is = only_read st ss reached single b.1 (b.2 ∙ ap (λ xs. joined (so_far st) ++ xs) empty ∙ append-nil (joined (so_far st))) in
    unfinished empty (ap (λ (x : State). x.begun) st_is)

-- ---- what a call of the reader returned

-- one more line, in the text
pub text_more : (text rest line more : List ℕ) (lines lines' : List (List ℕ)) → text ≡ joined lines ++ rest → rest ≡ line ++ lf ∷ more → lines' ≡ lines ++ line ∷ [] → text ≡ joined lines' ++ more
text_more text rest line more lines lines' e f g =
    let cut : joined (lines ++ line ∷ []) ≡ joined lines ++ (line ++ lf ∷ []) = joined-append lines (line ∷ []) in
    e ∙ ap (λ xs. joined lines ++ xs) (f ∙ sym (append_assoc line (lf ∷ []) more)) ∙ sym (append_assoc (joined lines) (line ++ lf ∷ []) more) ∙ ap (λ xs. xs ++ more) (sym cut) ∙ ap (λ ls. joined ls ++ more) (sym g)

pub reached_more : (st : State) (line : List ℕ) (st' : State) → IsReached st → step st line ≡ Some st' → IsReached st'
reached_more st line st' r h =
    let m = step_more st line st' r.0 h in
    let stepped : run start (so_far st ++ line ∷ []) ≡ Some st' = run-append start (so_far st) (line ∷ []) ∙ ap (λ o. and_then o (λ x. run x (line ∷ []))) r.1 ∙ ap (λ o. and_then o (λ x. Some x)) h in
    (m.1, ap (run start) m.0 ∙ stepped)

pub single_more : (st : State) (line : List ℕ) (st' : State) → IsState st → AllByRecursion IsOneLine (so_far st) → IsOneLine line → step st line ≡ Some st' → AllByRecursion IsOneLine (so_far st')
single_more st line st' v h one e = let m = step_more st line st' v e in subst (AllByRecursion IsOneLine) (sym m.0) (both_single (so_far st) (line ∷ []) h (one, tt))

-- a line that isn't read is the first wrong one
pub first_wrong : (text rest line more : List ℕ) (st : State) (n : ℕ) → text ≡ joined (so_far st) ++ rest → rest ≡ line ++ lf ∷ more → IsOneLine line → IsReached st → AllByRecursion IsOneLine (so_far st)
    → n ≡ length (so_far st) → step st line ≡ None → IsFirstWrong text (n + 1)
first_wrong text rest line more st n e f one reached single number none = record {
  lines = so_far st;
  rest = rest;
  split = e;
  single = All-from_recursion IsOneLine (so_far st) single;
  number = ap (λ k. k + 1) number;
  begins = can_go_on st reached.0;
  wrong = inl (line, more, f, one, no_step st line reached single one none);
}

-- a text that ends too early is wrong behind its last LF
pub ends_early : (text rest : List ℕ) (st : State) (n : ℕ) → text ≡ joined (so_far st) ++ rest → IsOneLine rest → IsReached st → AllByRecursion IsOneLine (so_far st)
    → n ≡ length (so_far st) → (rest ≡ [] → st.begun ≡ None → ⊥) → IsFirstWrong text (n + 1)
ends_early text rest st n e one reached single number unfinished = record {
  lines = so_far st;
  rest = rest;
  split = e;
  single = All-from_recursion IsOneLine (so_far st) single;
  number = ap (λ k. k + 1) number;
  begins = can_go_on st reached.0;
  wrong = inr (one, no_rest st rest reached single one unfinished);
}

pub nothing_left : (xs : List ℕ) → (length xs == 0) ≡ true → xs ≡ []
nothing_left [] h = refl
nothing_left (x ∷ xs) h = absurd (omega (arith, eqb-true (length (x ∷ xs)) 0 h))

-- the text from the survey that was begun on, after one more line
pub first_none : (b : Option Begun) (more : List ℕ) → is_some b ≡ false → more ≡ joined (lines_of b) ++ more
first_none None more h = refl
first_none (Some b) more h = absurd (cc h)

pub first_some : (b : Option Begun) (first rest line more : List ℕ) (lines : List (List ℕ)) → is_some b ≡ true → IfSome b (λ x. lines_of (Some x) ≡ lines ++ line ∷ [])
    → first ≡ joined lines ++ rest → rest ≡ line ++ lf ∷ more → first ≡ joined (lines_of b) ++ more
first_some None first rest line more lines h k e f = absurd (cc h)
first_some (Some b) first rest line more lines h k e f = text_more first rest line more lines (lines_of (Some b)) e f k

pub none_there : (b : Option Begun) (r : Bool) → is_some b ≡ not r → r ≡ false → b ≡ None → ⊥
none_there (Some b) r h k e = absurd (cc e)
none_there None true h k e = absurd (cc k)
none_there None false h k e = absurd (cc h)

pub some_left : (xs : List ℕ) (r : Bool) → r ≡ (length xs == 0) → r ≡ false → xs ≡ [] → ⊥
some_left (x ∷ xs) r h k e = absurd (cc e)
some_left [] true h k e = absurd (cc k)
some_left [] false h k e = absurd (cc h)

-- different surveys have different texts
pub one_text : (ss ts : List SurveyValue) → AreSurveys ss → AreSurveys ts → text_of ss ≡ text_of ts → ss ≡ ts
one_text ss ts v w e =
    let all = recursion_from_All IsSurvey ts w in
    let st : State = record { done = ts; begun = None } in
    let lines : so_far st ≡ flat_map survey_lines ts = append-nil (flat_map survey_lines ts) in
    let read : run start (so_far st) ≡ Some st = ap (run start) lines ∙ surveys_run [] ts all in
    let single = subst (AllByRecursion IsOneLine) (sym lines) (surveys_single ts all) in
    let is = only_read st ss ((w, tt), read) single v (e ∙ ap joined (sym lines)) in
    sym (ap (λ (x : State). x.done) is)

-- a wrong line stands in no text of surveys
pub wrong_is_none : (text : List ℕ) (n : ℕ) → IsFirstWrong text n → IsTextOfSome text → ⊥
wrong_is_none text n w some = by_kind w.wrong where
  by_kind : IsWrongAfter (joined w.lines) w.rest → ⊥
  by_kind (inl x) = x.4 (some.0, x.1, some.1, some.2 ∙ w.split ∙ ap (λ xs. joined w.lines ++ xs) (x.2 ∙ sym (append_assoc x.0 (lf ∷ []) x.1)) ∙ sym (append_assoc (joined w.lines) (x.0 ++ lf ∷ []) x.1))
  by_kind (inr x) = x.1 (some.0, some.1, some.2 ∙ w.split)
