-- The lines of surveys are read, and those that were read so far can be completed.
use Rattle.vic_survey.proofs.RunWords.{AllByRecursion, List, None, Option, Some, [], ap, arith, append_assoc, append-nil, map, flat_map, refl, sym, ℕ, ◌++◌, ◌∙◌, ◌∷◌, ◌≡◌, codes, decimal, BitMask, ShownUid, mask_text, found_text, certain_line, bytes_eq-Decides, IsFieldInRange, IsName, SurveyedField, Refused, Impossible, Possible, joined, SurveyValue, FieldFacts, open_line, facts_lines, field_lines, lines_before, seal, survey_lines, name_line, BeginsSome, AreSurveys, All-push, AreFactsInRange, IsSurvey, AreRisingUids, AreRisingMasks, Begun, Named, UpTo, Unsealed, Part, State, run, lists_of, lines_of, so_far, IsBegun, IsState}
use Rattle.vic_survey.specs.declared.begun.Part.TheVariants as part
use Rattle.vic_survey.proofs.Joined.{joined-append}
use Rattle.vic_survey.proofs.Spelled.{number_found}
use Rattle.vic_survey.proofs.ValueLaws.{mask_back}
use Rattle.vic_survey.proofs.LineLaws.{found_back, certain_back, impossible_back, refused_back, name_back}
use Rattle.vic_survey.proofs.RisingLaws.{certain_next, certain_at, open_next, open_at}
use Rattle.vic_survey.proofs.Runs.{flat_push}

-- what a possible log says, with nothing behind its lists
facts : ℕ → List ShownUid → List BitMask → FieldFacts
facts a us ms = record { answers = a; certain = us; «open» = ms; margin = 0; weakest = record { len = 0; value = 0 }; hidden = None; deaf = None }

up_to : List SurveyValue → List ℕ → FieldFacts → State
up_to done name s = record { done = done; begun = Some (UpTo name s part.Lists) }

-- certain UIDs, one behind the other
certain_run : (done : List SurveyValue) (name : List ℕ) (a : ℕ) (us vs : List ShownUid) (rest : List (List ℕ)) → AreRisingUids (us ++ vs)
    → run (up_to done name (facts a us [])) (map certain_line vs ++ rest) ≡ run (up_to done name (facts a (us ++ vs) [])) rest
unfolding facts up_to
certain_run done name a us [] rest h = ap (λ xs. run (up_to done name (facts a xs [])) rest) (sym (append-nil us))
certain_run done name a us (v ∷ vs) rest h =
    let above = certain_next us v vs h in
    let uid = certain_at us v vs h in
    let split : (us ++ v ∷ []) ++ vs ≡ us ++ v ∷ vs = append_assoc us (v ∷ []) vs in
    let next = certain_run done name a (us ++ v ∷ []) vs rest (rw split h) in
    rw (certain_back v uid.0 uid.1, above) (next ∙ ap (λ xs. run (up_to done name (facts a xs [])) rest) split)

-- open masks, one behind the other
open_run : (done : List SurveyValue) (name : List ℕ) (a : ℕ) (us : List ShownUid) (ms ns : List BitMask) (rest : List (List ℕ)) → AreRisingMasks (ms ++ ns)
    → run (up_to done name (facts a us ms)) (map open_line ns ++ rest) ≡ run (up_to done name (facts a us (ms ++ ns))) rest
unfolding facts up_to
open_run done name a us ms [] rest h = ap (λ xs. run (up_to done name (facts a us xs)) rest) (sym (append-nil ms))
open_run done name a us ms (n ∷ ns) rest h =
    let behind = open_next ms n ns h in
    let short = open_at ms n ns h in
    let split : (ms ++ n ∷ []) ++ ns ≡ ms ++ n ∷ ns = append_assoc ms (n ∷ []) ns in
    let next = open_run done name a us (ms ++ n ∷ []) ns rest (rw split h) in
    rw (mask_back n short, behind) (next ∙ ap (λ xs. run (up_to done name (facts a us xs)) rest) split)

-- a seal
sealed : (done : List SurveyValue) (s : SurveyValue) (rest : List (List ℕ))
    → run (record { done = done; begun = Some (Unsealed s) }) (seal (lines_before s) ∷ rest) ≡ run (record { done = done ++ s ∷ []; begun = None }) rest
sealed done s rest = rw ((bytes_eq-Decides (seal (lines_before s)) (seal (lines_before s))).1 refl) refl

-- what stands behind the lists
ending_run : (done : List SurveyValue) (name : List ℕ) (s : FieldFacts) (rest : List (List ℕ)) → AreFactsInRange s
    → run (up_to done name (facts s.answers s.certain s.«open»)) ((codes "margin " ++ decimal s.margin) ∷ (codes "weakest " ++ mask_text s.weakest)
    ∷ (codes "hidden " ++ found_text s.hidden) ∷ (codes "deaf " ++ found_text s.deaf) ∷ rest)
    ≡ run (record { done = done; begun = Some (Unsealed (record { name = name; field = Possible s })) }) rest
unfolding facts up_to
ending_run done name s rest h =
    rw (number_found 999999 s.margin (omega (arith, h.margin)) h.margin, mask_back s.weakest h.weakest, found_back s.hidden h.hidden, found_back s.deaf h.deaf) refl

-- what a possible log says
facts_run : (done : List SurveyValue) (name : List ℕ) (s : FieldFacts) (rest : List (List ℕ)) → AreFactsInRange s
    → run (record { done = done; begun = Some (Named name) }) (codes "possible" ∷ facts_lines s ++ rest)
    ≡ run (record { done = done; begun = Some (Unsealed (record { name = name; field = Possible s })) }) rest
unfolding facts up_to
facts_run done name s rest h =
    let ends = (codes "margin " ++ decimal s.margin) ∷ (codes "weakest " ++ mask_text s.weakest) ∷ (codes "hidden " ++ found_text s.hidden) ∷ (codes "deaf " ++ found_text s.deaf) ∷ [] in
    let first = number_found 999999 s.answers (omega (arith, h.answers)) h.answers in
    let cs = map certain_line s.certain in
    let os = map open_line s.«open» in
    let split : ((cs ++ os) ++ ends) ++ rest ≡ cs ++ (os ++ (ends ++ rest)) = append_assoc (cs ++ os) ends rest ∙ append_assoc cs os (ends ++ rest) in
    rw (first, split) (certain_run done name s.answers [] s.certain (os ++ (ends ++ rest)) h.certain
    ∙ open_run done name s.answers s.certain [] s.«open» (ends ++ rest) h.masks ∙ ending_run done name s rest h)

-- what a log says
field_run : (done : List SurveyValue) (name : List ℕ) (f : SurveyedField) (rest : List (List ℕ)) → IsFieldInRange f
    → run (record { done = done; begun = Some (Named name) }) (field_lines f ++ rest) ≡ run (record { done = done; begun = Some (Unsealed (record { name = name; field = f })) }) rest
field_run done name (Refused n f) rest h = rw (refused_back n f h.0 h.1) refl
field_run done name (Impossible n) rest h = rw (impossible_back n h) refl
field_run done name (Possible s) rest h = facts_run done name s rest h

-- a survey
survey_run : (done : List SurveyValue) (s : SurveyValue) (rest : List (List ℕ)) → IsSurvey s
    → run (record { done = done; begun = None }) (survey_lines s ++ rest) ≡ run (record { done = done ++ s ∷ []; begun = None }) rest
survey_run done s rest h =
    let split : (field_lines s.field ++ seal (lines_before s) ∷ []) ++ rest ≡ field_lines s.field ++ seal (lines_before s) ∷ rest = append_assoc (field_lines s.field) (seal (lines_before s) ∷ []) rest in
    rw (name_back s.name h.name, split) (field_run done s.name s.field (seal (lines_before s) ∷ rest) h.field ∙ sealed done s rest)

-- surveys
pub surveys_run : (done ss : List SurveyValue) → AllByRecursion IsSurvey ss → run (record { done = done; begun = None }) (flat_map survey_lines ss) ≡ Some (record { done = done ++ ss; begun = None })
surveys_run done [] h = ap (λ xs. Some (record { done = xs; begun = None })) (sym (append-nil done))
surveys_run done (s ∷ ss) h =
    survey_run done s (flat_map survey_lines ss) h.0 ∙ surveys_run (done ++ s ∷ []) ss h.1 ∙ ap (λ xs. Some (record { done = xs; begun = None })) (append_assoc done (s ∷ []) ss)

-- ---- lines that were read can be completed

completed : (done : List SurveyValue) (s : SurveyValue) (front back : List (List ℕ)) → AreSurveys done → IsSurvey s → survey_lines s ≡ front ++ back → BeginsSome (joined (flat_map survey_lines done ++ front))
completed done s front back d v e = (
  done ++ s ∷ [],
  joined back,
  All-push IsSurvey done s d v,
  ap joined (flat_push done s ∙ ap (λ xs. flat_map survey_lines done ++ xs) e ∙ sym (append_assoc (flat_map survey_lines done) front back)) ∙ joined-append (flat_map survey_lines done ++ front) back,
)

-- lists that are parted in two ways
part_split : (ls xs ys ends : List (List ℕ)) → (ls ++ (xs ++ ys)) ++ ends ≡ (ls ++ xs) ++ (ys ++ ends)
part_split ls xs ys ends = append_assoc ls (xs ++ ys) ends ∙ ap (λ zs. ls ++ zs) (append_assoc xs ys ends) ∙ sym (append_assoc ls xs (ys ++ ends))

up_to_completed : (done : List SurveyValue) (name : List ℕ) (s : FieldFacts) (p : Part) → AreSurveys done → IsName name → AreFactsInRange s
    → BeginsSome (joined (flat_map survey_lines done ++ lines_of (Some (UpTo name s p))))
up_to_completed done name s p d n v = by_part p where
  t : SurveyValue
  t = record { name = name; field = Possible s }

  ends : List (List ℕ)
  ends = seal (lines_before t) ∷ []

  ms : List (List ℕ)
  ms = (codes "margin " ++ decimal s.margin) ∷ []

  ws : List (List ℕ)
  ws = (codes "weakest " ++ mask_text s.weakest) ∷ []

  hs : List (List ℕ)
  hs = (codes "hidden " ++ found_text s.hidden) ∷ []

  fs : List (List ℕ)
  fs = (codes "deaf " ++ found_text s.deaf) ∷ []

  two : List (List ℕ) → List (List ℕ)
  two xs = name_line name ∷ codes "possible" ∷ xs

  by_part : (p : Part) → BeginsSome (joined (flat_map survey_lines done ++ lines_of (Some (UpTo name s p))))
  by_part part.Possible = completed done t (two []) (facts_lines s ++ ends) d (record { name = n; field = v }) refl
  by_part part.Lists = completed done t (two (lists_of s)) ((ms ++ (ws ++ (hs ++ fs))) ++ ends) d (record { name = n; field = v }) (ap two (append_assoc (lists_of s) (ms ++ (ws ++ (hs ++ fs))) ends))
  by_part part.Margin = completed done t (two (lists_of s ++ ms)) ((ws ++ (hs ++ fs)) ++ ends) d (record { name = n; field = v }) (ap two (part_split (lists_of s) ms (ws ++ (hs ++ fs)) ends))
  by_part part.Weakest = completed done t (two (lists_of s ++ (ms ++ ws))) ((hs ++ fs) ++ ends) d (record { name = n; field = v }) (ap two (part_split (lists_of s) (ms ++ ws) (hs ++ fs) ends))
  by_part part.Hidden = completed done t (two (lists_of s ++ (ms ++ (ws ++ hs)))) (fs ++ ends) d (record { name = n; field = v }) (ap two (part_split (lists_of s) (ms ++ (ws ++ hs)) fs ends))

begun_completed : (done : List SurveyValue) (b : Option Begun) → AreSurveys done → IsBegun b → BeginsSome (joined (flat_map survey_lines done ++ lines_of b))
begun_completed done None d v = (done, [], d, ap joined (sym (append-nil (flat_map survey_lines done))) ∙ sym (append-nil (joined (flat_map survey_lines done ++ []))))
begun_completed done (Some (Named name)) d v =
    completed done (record { name = name; field = Impossible 1 }) (name_line name ∷ [])
    (field_lines (Impossible 1) ++ seal (lines_before (record { name = name; field = Impossible 1 })) ∷ []) d (record { name = v; field = (omega arith, omega arith) }) refl
begun_completed done (Some (Unsealed s)) d v = completed done s (lines_before s) (seal (lines_before s) ∷ []) d v refl
begun_completed done (Some (UpTo name s p)) d v = up_to_completed done name s p d v.0 v.1

-- some text of surveys begins with the lines that were read
pub can_go_on : (st : State) → IsState st → BeginsSome (joined (so_far st))
can_go_on st v = begun_completed st.done st.begun v.0 v.1
