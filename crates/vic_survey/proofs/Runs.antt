-- Reading line by line: what is read so, and which lines can follow.
use Rattle.vic_survey.proofs.RunWords.{List, None, Option, Some, [], ap, arith, append_assoc, append-nil, eqb-true, length, map, map-append, flat_map, refl, subst, sym, true, ℕ, ◌&&◌, ◌++◌, ◌==◌, ◌∙◌, ◌∷◌, ◌≡◌, ◌≤◌, codes, decimal, BitMask, ShownUid, mask_text, found_text, certain_line, bytes_eq, and_parts, IsShort, IsName, and_then, or_else, after, number_up_to, mask_in, found_in, certain_in, name_in, Possible, SurveyValue, FieldFacts, open_line, lines_before, seal, survey_lines, IfSome, name_line, AreSurveys, All-push, AreFactsInRange, IsSurvey, Begun, Named, UpTo, Unsealed, Part, is_above, is_behind, count_after, mask_after, found_after, nothing, with_answers, with_certain, with_open, with_margin, with_weakest, with_hidden, with_deaf, field_in, after_name, certain_after, more_certain, more_open, next_part, State, step_of, step, run, lists_of, lines_of, so_far, IsAt, IsBegun, IsState}
use Rattle.std.specs.Prelude.{Result, Ok, Err, IfOk}
use Rattle.vic_survey.specs.declared.begun.StepFault.{StepFault}
use Rattle.vic_survey.specs.inner.Steps.{Gives}
use Rattle.vic_survey.specs.declared.begun.Part.TheVariants as part
use Rattle.vic_text.proofs.ValueLaws.{if_some, same}
use Rattle.vic_survey.proofs.Spelled.{then_some, if_cases, number_text}
use Rattle.vic_survey.proofs.ValueLaws.{after_text, mask_text_of}
use Rattle.vic_survey.proofs.LineLaws.{found_text_of, certain_text_of, field_text_of, name_text_of}
use Rattle.vic_survey.proofs.RisingLaws.{certain_push, open_push}

-- ---- what one more line makes of a survey that was begun

-- the line is one more of those that were read
pub record Adds (b : Option Begun) (line : List ℕ) (b' : Option Begun) : Type 0 where
  pub lines : lines_of b' ≡ lines_of b ++ line ∷ []
  pub valid : IsBegun b'

or_some : {A : Type 0} (r o : Option A) (y : A) (P : Type 0) → or_else r o ≡ Some y → (r ≡ Some y → P) → (o ≡ Some y → P) → P
or_some None o y P h first second = second h
or_some (Some x) o y P h first second = first h

pub after_name_adds : (name line : List ℕ) (b : Begun) → IsName name → after_name name line ≡ Some b → Adds (Some (Named name)) line (Some b)
after_name_adds name line b n h =
    if_cases (bytes_eq line (codes "possible")) (Some (UpTo name nothing part.Possible)) _ (Some b) h
    (λ e is.
    let it : UpTo name nothing part.Possible ≡ b = cc (is) in
    subst (λ x. Adds (Some (Named name)) line (Some x)) it (record {
      lines = ap (λ l. name_line name ∷ l ∷ []) (sym (same line (codes "possible") e));
      valid = (n, nothing_valid, (refl, refl));
    }))
    (λ e is.
    let f = then_some (field_in line) (λ field. Some (Unsealed (record { name = name; field = field }))) b is in
    let it : Unsealed (record { name = name; field = f.0 }) ≡ b = cc (f.2) in
    let t = field_text_of line f.0 f.1 in
    subst (λ x. Adds (Some (Named name)) line (Some x)) it (record {
      lines = ap (λ ls. name_line name ∷ ls) (sym t.0);
      valid = record { name = n; field = t.1 };
    })) where
      nothing_valid : AreFactsInRange nothing
      nothing_valid = record {
        answers = omega arith;
        certain = record { rising = λ k lt. absurd (omega (arith, lt)); uids = λ k d lt. absurd (omega (arith, lt)) };
        masks = record { rising = λ i j d lt more. absurd (omega (arith, more)); short = λ k d lt. absurd (omega (arith, lt)) };
        margin = omega arith;
        weakest = (omega arith, omega arith);
        hidden = tt;
        deaf = tt;
      }

-- a number, a mask and a mask or none behind words
count_is : (words line : List ℕ) (n : ℕ) → count_after words line ≡ Some n → (line ≡ words ++ decimal n) × (n ≤ 999999)
count_is words line n h =
    let t = then_some (after words line) (number_up_to 999999) n h in
    let u = number_text 999999 t.0 n t.2 in
    (after_text words line t.0 t.1 ∙ ap (λ xs. words ++ xs) u.0, u.1)

mask_is : (words line : List ℕ) (m : BitMask) → mask_after words line ≡ Some m → (line ≡ words ++ mask_text m) × IsShort m
mask_is words line m h =
    let t = then_some (after words line) mask_in m h in
    let u = mask_text_of t.0 m t.2 in
    (after_text words line t.0 t.1 ∙ ap (λ xs. words ++ xs) u.0, u.1)

found_is : (words line : List ℕ) (m : Option BitMask) → found_after words line ≡ Some m → (line ≡ words ++ found_text m) × IfSome m IsShort
found_is words line m h =
    let t = then_some (after words line) found_in m h in
    let u = found_text_of t.0 m t.2 in
    (after_text words line t.0 t.1 ∙ ap (λ xs. words ++ xs) u.0, u.1)

none_there : (ms : List BitMask) → (length ms == 0) ≡ true → ms ≡ []
none_there [] h = refl
none_there (m ∷ ms) h = absurd (omega (arith, eqb-true (length (m ∷ ms)) 0 h))

certain_adds : (name : List ℕ) (s : FieldFacts) (line : List ℕ) (b : Begun) → IsName name → AreFactsInRange s → more_certain name s line ≡ Some b → Adds (Some (UpTo name s part.Lists)) line (Some b)
certain_adds name s line b n v h =
    let c = then_some (certain_after line) _ b h in
    let t = if_some (length s.«open» == 0 && is_above s.certain c.0.uid) _ b c.2 in
    let p = and_parts (length s.«open» == 0) (is_above s.certain c.0.uid) t.0 in
    let it : UpTo name (with_certain s c.0) part.Lists ≡ b = cc (t.1) in
    let w = then_some (after (codes "certain ") line) certain_in c.0 c.1 in
    let u = certain_text_of w.0 c.0 w.2 in
    let text : line ≡ certain_line c.0 = after_text (codes "certain ") line w.0 w.1 ∙ u.0 in
    let none = none_there s.«open» p.0 in
    subst (λ x. Adds (Some (UpTo name s part.Lists)) line (Some x)) it (record {
      lines = ap (λ ls. name_line name ∷ codes "possible" ∷ ls) (more_uids (codes "answers " ++ decimal s.answers) s.certain c.0 s.«open» line none text);
      valid = (n, record { answers = v.answers; certain = certain_push s.certain c.0 v.certain p.1 u.1 u.2; masks = v.masks; margin = v.margin; weakest = v.weakest; hidden = v.hidden; deaf = v.deaf }, tt);
    }) where
      more_uids : (a : List ℕ) (us : List ShownUid) (c : ShownUid) (ms : List BitMask) (line : List ℕ) → ms ≡ [] → line ≡ certain_line c
          → a ∷ map certain_line (us ++ c ∷ []) ++ map open_line ms ≡ (a ∷ map certain_line us ++ map open_line ms) ++ line ∷ []
      more_uids a us c ms line none text = rw (none, text, map-append certain_line us (c ∷ [])) (ap (λ xs. a ∷ xs) (append-nil (map certain_line us ++ certain_line c ∷ []) ∙ ap (λ xs. xs ++ certain_line c ∷ []) (sym (append-nil (map certain_line us)))))

open_adds : (name : List ℕ) (s : FieldFacts) (line : List ℕ) (b : Begun) → IsName name → AreFactsInRange s → more_open name s line ≡ Some b → Adds (Some (UpTo name s part.Lists)) line (Some b)
open_adds name s line b n v h =
    let m = then_some (mask_after (codes "open ") line) _ b h in
    let t = if_some (is_behind s.«open» m.0) _ b m.2 in
    let it : UpTo name (with_open s m.0) part.Lists ≡ b = cc (t.1) in
    let u = mask_is (codes "open ") line m.0 m.1 in
    subst (λ x. Adds (Some (UpTo name s part.Lists)) line (Some x)) it (record {
      lines = ap (λ ls. name_line name ∷ codes "possible" ∷ ls) (more_masks (codes "answers " ++ decimal s.answers) (map certain_line s.certain) s.«open» m.0 line u.0);
      valid = (n, record { answers = v.answers; certain = v.certain; masks = open_push s.«open» m.0 v.masks t.0 u.1; margin = v.margin; weakest = v.weakest; hidden = v.hidden; deaf = v.deaf }, tt);
    }) where
      more_masks : (a : List ℕ) (cs : List (List ℕ)) (ms : List BitMask) (m : BitMask) (line : List ℕ) → line ≡ open_line m
          → a ∷ cs ++ map open_line (ms ++ m ∷ []) ≡ (a ∷ cs ++ map open_line ms) ++ line ∷ []
      more_masks a cs ms m line text = rw (text, map-append open_line ms (m ∷ [])) (sym (append_assoc (a ∷ cs) (map open_line ms) (open_line m ∷ [])))

one_more : (ds ms : List (List ℕ)) {w line : List ℕ} → line ≡ w → ds ++ (ms ++ w ∷ []) ≡ (ds ++ ms) ++ line ∷ []
one_more ds ms {w} e = sym (append_assoc ds ms (w ∷ [])) ∙ ap (λ l. (ds ++ ms) ++ l ∷ []) (sym e)

pub part_adds : (name : List ℕ) (s : FieldFacts) (p : Part) (line : List ℕ) (b : Begun) → IsName name → AreFactsInRange s → IsAt p s → next_part name s p line ≡ Some b → Adds (Some (UpTo name s p)) line (Some b)
part_adds name s part.Possible line b n v at h =
    let c = then_some (count_after (codes "answers ") line) _ b h in
    let it : UpTo name (with_answers s c.0) part.Lists ≡ b = cc (c.2) in
    let t = count_is (codes "answers ") line c.0 c.1 in
    let none : map certain_line s.certain ++ map open_line s.«open» ≡ [] = rw (at.0, at.1) refl in
    subst (λ x. Adds (Some (UpTo name s part.Possible)) line (Some x)) it (record {
      lines = ap (λ ls. name_line name ∷ codes "possible" ∷ (codes "answers " ++ decimal c.0) ∷ ls) none ∙ ap (λ l. name_line name ∷ codes "possible" ∷ l ∷ []) (sym t.0);
      valid = (n, record { answers = t.1; certain = v.certain; masks = v.masks; margin = v.margin; weakest = v.weakest; hidden = v.hidden; deaf = v.deaf }, tt);
    })
part_adds name s part.Lists line b n v at h =
    or_some (more_certain name s line) _ b _ h (certain_adds name s line b n v) (λ h.
    or_some (more_open name s line) _ b _ h (open_adds name s line b n v) (λ h.
    let c = then_some (count_after (codes "margin ") line) _ b h in
    let it : UpTo name (with_margin s c.0) part.Margin ≡ b = cc (c.2) in
    let t = count_is (codes "margin ") line c.0 c.1 in
    subst (λ x. Adds (Some (UpTo name s part.Lists)) line (Some x)) it (record {
      lines = ap (λ l. name_line name ∷ codes "possible" ∷ lists_of s ++ l ∷ []) (sym t.0);
      valid = (n, record { answers = v.answers; certain = v.certain; masks = v.masks; margin = t.1; weakest = v.weakest; hidden = v.hidden; deaf = v.deaf }, tt);
    })))
part_adds name s part.Margin line b n v at h =
    let c = then_some (mask_after (codes "weakest ") line) _ b h in
    let it : UpTo name (with_weakest s c.0) part.Weakest ≡ b = cc (c.2) in
    let t = mask_is (codes "weakest ") line c.0 c.1 in
    subst (λ x. Adds (Some (UpTo name s part.Margin)) line (Some x)) it (record {
      lines = ap (λ ls. name_line name ∷ codes "possible" ∷ ls) (one_more (lists_of s) ((codes "margin " ++ decimal s.margin) ∷ []) t.0);
      valid = (n, record { answers = v.answers; certain = v.certain; masks = v.masks; margin = v.margin; weakest = t.1; hidden = v.hidden; deaf = v.deaf }, tt);
    })
part_adds name s part.Weakest line b n v at h =
    let c = then_some (found_after (codes "hidden ") line) _ b h in
    let it : UpTo name (with_hidden s c.0) part.Hidden ≡ b = cc (c.2) in
    let t = found_is (codes "hidden ") line c.0 c.1 in
    subst (λ x. Adds (Some (UpTo name s part.Weakest)) line (Some x)) it (record {
      lines = ap (λ ls. name_line name ∷ codes "possible" ∷ ls) (one_more (lists_of s) ((codes "margin " ++ decimal s.margin) ∷ (codes "weakest " ++ mask_text s.weakest) ∷ []) t.0);
      valid = (n, record { answers = v.answers; certain = v.certain; masks = v.masks; margin = v.margin; weakest = v.weakest; hidden = t.1; deaf = v.deaf }, tt);
    })
part_adds name s part.Hidden line b n v at h =
    let c = then_some (found_after (codes "deaf ") line) _ b h in
    let it : Unsealed (record { name = name; field = Possible (with_deaf s c.0) }) ≡ b = cc (c.2) in
    let t = found_is (codes "deaf ") line c.0 c.1 in
    subst (λ x. Adds (Some (UpTo name s part.Hidden)) line (Some x)) it (record {
      lines = ap (λ ls. name_line name ∷ codes "possible" ∷ ls) (one_more (lists_of s) ((codes "margin " ++ decimal s.margin) ∷ (codes "weakest " ++ mask_text s.weakest) ∷ (codes "hidden " ++ found_text s.hidden) ∷ []) t.0);
      valid = record { name = n; field = record { answers = v.answers; certain = v.certain; masks = v.masks; margin = v.margin; weakest = v.weakest; hidden = v.hidden; deaf = t.1 } };
    })

-- ---- what one more line makes of all

flat-append : (f : SurveyValue → List (List ℕ)) (xs ys : List SurveyValue) → flat_map f (xs ++ ys) ≡ flat_map f xs ++ flat_map f ys
flat-append f [] ys = refl
flat-append f (x ∷ xs) ys = ap (λ zs. f x ++ zs) (flat-append f xs ys) ∙ sym (append_assoc (f x) (flat_map f xs) (flat_map f ys))

pub flat_push : (done : List SurveyValue) (s : SurveyValue) → flat_map survey_lines (done ++ s ∷ []) ≡ flat_map survey_lines done ++ survey_lines s
flat_push done s = flat-append survey_lines done (s ∷ []) ∙ ap (λ zs. flat_map survey_lines done ++ zs) (append-nil (survey_lines s))

-- one more line of a survey
begun_more : (done : List SurveyValue) (b : Option Begun) (line : List ℕ) (b' : Begun) (st : State) → AreSurveys done → Adds b line (Some b') → record { done = done; begun = Some b' } ≡ st
    → (so_far st ≡ (flat_map survey_lines done ++ lines_of b) ++ line ∷ []) × IsState st
begun_more done b line b' st d a it =
    subst (λ x. (so_far x ≡ (flat_map survey_lines done ++ lines_of b) ++ line ∷ []) × IsState x) it
    (ap (λ ls. flat_map survey_lines done ++ ls) a.lines ∙ sym (append_assoc (flat_map survey_lines done) (lines_of b) (line ∷ [])), (d, a.valid))

step_adds : (done : List SurveyValue) (b : Option Begun) (line : List ℕ) (st : State) → AreSurveys done → IsBegun b → step_of done b line ≡ Some st
    → (so_far st ≡ (flat_map survey_lines done ++ lines_of b) ++ line ∷ []) × IsState st
step_adds done None line st d v h =
    let n = then_some (name_in line) _ st h in
    let t = name_text_of line n.0 n.1 in
    begun_more done None line (Named n.0) st d (record { lines = ap (λ l. l ∷ []) (sym t.0); valid = t.1 }) (cc (n.2))
step_adds done (Some (Named name)) line st d v h =
    let b = then_some (after_name name line) _ st h in
    begun_more done (Some (Named name)) line b.0 st d (after_name_adds name line b.0 v b.1) (cc (b.2))
step_adds done (Some (UpTo name s p)) line st d v h =
    let b = then_some (next_part name s p line) _ st h in
    begun_more done (Some (UpTo name s p)) line b.0 st d (part_adds name s p line b.0 v.0 v.1 v.2 b.1) (cc (b.2))
step_adds done (Some (Unsealed s)) line st d v h =
    let t = if_some (bytes_eq line (seal (lines_before s))) _ st h in
    let it : record { done = done ++ s ∷ []; begun = None } ≡ st = cc (t.1) in
    let text = same line (seal (lines_before s)) t.0 in
    subst (λ x. (so_far x ≡ (flat_map survey_lines done ++ lines_before s) ++ line ∷ []) × IsState x) it (
      append-nil (flat_map survey_lines (done ++ s ∷ [])) ∙ flat_push done s ∙ sym (append_assoc (flat_map survey_lines done) (lines_before s) (seal (lines_before s) ∷ []))
          ∙ ap (λ l. (flat_map survey_lines done ++ lines_before s) ++ l ∷ []) (sym text),
      (All-push IsSurvey done s d v, tt),
    )

-- a line that is read is one more of those that were
pub step_more : (st : State) (line : List ℕ) (st' : State) → IsState st → step st line ≡ Some st' → (so_far st' ≡ so_far st ++ line ∷ []) × IsState st'
step_more st line st' v h = step_adds st.done st.begun line st' v.0 v.1 h

-- ---- runs

pub run-append : (st : State) (xs ys : List (List ℕ)) → run st (xs ++ ys) ≡ and_then (run st xs) (λ x. run x ys)
run-append st [] ys = refl
run-append st (x ∷ xs) ys = by_step (step st x) (λ a. run-append a xs ys) where
  by_step : (r : Option State) → ((a : State) → run a (xs ++ ys) ≡ and_then (run a xs) (λ b. run b ys)) → and_then r (λ a. run a (xs ++ ys)) ≡ and_then (and_then r (λ a. run a xs)) (λ a. run a ys)
  by_step None rest = refl
  by_step (Some a) rest = rest a

-- what a call returned is one more line
pub part_more : (name : List ℕ) (s : FieldFacts) (p : Part) (line : List ℕ) (r : Result Begun StepFault) → IsName name → AreFactsInRange s → IsAt p s → Gives r (next_part name s p line)
    → IfOk r (λ b. lines_of (Some b) ≡ lines_of (Some (UpTo name s p)) ++ line ∷ [])
part_more name s p line (Ok b) n v at g = (part_adds name s p line b n v at g).lines
part_more name s p line (Err e) n v at g = tt
