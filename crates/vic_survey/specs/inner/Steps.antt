-- Surveys that are read line by line: what was read, and what one more line makes of it.
use Rattle.std.specs.Prelude.{◌≡◌, ℕ, ◌==◌, ◌&&◌, ⊤, Option, Some, None, Result, Ok, Err, List, [], ◌∷◌, ◌++◌, length, map, bytes_eq, codes, decimal, if◌then◌else◌}
use Rattle.std.specs.List.{flat_map}
use Rattle.vic_frame.specs.Masks.{BitMask}
use Rattle.vic_report.specs.declared.shown.ShownUid.{ShownUid}
use Rattle.vic_survey.specs.Names.{IsName}
use Rattle.vic_survey.specs.Surveys.{SurveyValue, AreSurveys, AreFactsInRange, IsSurvey}
use Rattle.vic_survey.specs.SurveyText.{certain_line, open_line, found_text, lines_before, name_line, seal, survey_lines}
use Rattle.vic_text.specs.Digits.{mask_text}
use Rattle.vic_survey.specs.declared.begun.Begun.{Begun}
use Rattle.vic_survey.specs.declared.begun.Begun.TheVariants.{Named, UpTo, Unsealed}
use Rattle.vic_survey.specs.declared.begun.Part.{Part}
use Rattle.vic_survey.specs.declared.begun.Part.TheVariants as part
use Rattle.vic_survey.specs.declared.begun.StepFault.{StepFault}
use Rattle.vic_survey.specs.declared.begun.StepFault.TheVariants.{Wrong, Memory}
use Rattle.vic_survey.specs.declared.survey.TheConstants.{MAX_COUNT}
use Rattle.vic_survey.specs.declared.survey.SurveyedField.{SurveyedField}
use Rattle.vic_survey.specs.declared.survey.SurveyedField.TheVariants.{Impossible, Possible}
use Rattle.vic_survey.specs.declared.survey.FieldFacts.{FieldFacts}
use Rattle.vic_survey.specs.inner.Rising.{is_above, is_behind}
use Rattle.vic_survey.specs.inner.Values.{and_then, or_else, after, number_up_to, line_number_in, mask_in, found_in, certain_in, refused_in, name_in}

-- what a call returned is what is read, unless memory was refused
abbrev pub Gives : {A : Type 0} → Result A StepFault → Option A → Type 0
Gives (Ok x) read = read ≡ Some x
Gives (Err Wrong) read = read ≡ None
Gives (Err Memory) read = ⊤

-- a number behind words; a line's number; a mask; a mask or `-`
abbrev pub count_after : List ℕ → List ℕ → Option ℕ
count_after words line = and_then (after words line) (number_up_to MAX_COUNT)

abbrev pub line_after : List ℕ → List ℕ → Option ℕ
line_after words line = and_then (after words line) line_number_in

abbrev pub mask_after : List ℕ → List ℕ → Option BitMask
mask_after words line = and_then (after words line) mask_in

abbrev pub found_after : List ℕ → List ℕ → Option (Option BitMask)
found_after words line = and_then (after words line) found_in

-- ---- what a possible log says, one part more

-- nothing yet
abbrev pub nothing : FieldFacts
nothing = record {
  answers = 0;
  certain = [];
  «open» = [];
  margin = 0;
  weakest = record { len = 0; value = 0 };
  hidden = None;
  deaf = None;
}

abbrev pub with_answers : FieldFacts → ℕ → FieldFacts
with_answers s n = record s { answers = n }

abbrev pub with_certain : FieldFacts → ShownUid → FieldFacts
with_certain s u = record s { certain = s.certain ++ u ∷ [] }

abbrev pub with_open : FieldFacts → BitMask → FieldFacts
with_open s m = record s { «open» = s.«open» ++ m ∷ [] }

abbrev pub with_margin : FieldFacts → ℕ → FieldFacts
with_margin s n = record s { margin = n }

abbrev pub with_weakest : FieldFacts → BitMask → FieldFacts
with_weakest s m = record s { weakest = m }

abbrev pub with_hidden : FieldFacts → Option BitMask → FieldFacts
with_hidden s m = record s { hidden = m }

abbrev pub with_deaf : FieldFacts → Option BitMask → FieldFacts
with_deaf s m = record s { deaf = m }

-- ---- the lines that follow

-- what a log says that isn't possible
abbrev pub field_in : List ℕ → Option SurveyedField
field_in line = or_else
    (and_then (line_after (codes "impossible at line ") line) (λ n. Some (Impossible n)))
    (and_then (after (codes "refused at line ") line) refused_in)

-- a line behind that of the name
abbrev pub after_name : List ℕ → List ℕ → Option Begun
after_name name line =
    if bytes_eq line (codes "possible") then Some (UpTo name nothing part.Possible)
    else and_then (field_in line)
    (λ field. Some (Unsealed (record { name = name; field = field })))

abbrev pub certain_after : List ℕ → Option ShownUid
certain_after line = and_then (after (codes "certain ") line) certain_in

-- one more certain UID; none comes behind an open mask
abbrev pub more_certain : List ℕ → FieldFacts → List ℕ → Option Begun
more_certain name s line = and_then (certain_after line)
    (λ c. if length s.«open» == 0 && is_above s.certain c.uid
    then Some (UpTo name (with_certain s c) part.Lists) else None)

-- one more open mask
abbrev pub more_open : List ℕ → FieldFacts → List ℕ → Option Begun
more_open name s line = and_then (mask_after (codes "open ") line)
    (λ m. if is_behind s.«open» m then Some (UpTo name (with_open s m) part.Lists) else None)

-- what a possible log says, one more line
abbrev pub next_part : List ℕ → FieldFacts → Part → List ℕ → Option Begun
next_part name s part.Possible line = and_then (count_after (codes "answers ") line)
    (λ n. Some (UpTo name (with_answers s n) part.Lists))
next_part name s part.Lists line =
    or_else (more_certain name s line) (or_else (more_open name s line)
    (and_then (count_after (codes "margin ") line)
    (λ n. Some (UpTo name (with_margin s n) part.Margin))))
next_part name s part.Margin line = and_then (mask_after (codes "weakest ") line)
    (λ m. Some (UpTo name (with_weakest s m) part.Weakest))
next_part name s part.Weakest line = and_then (found_after (codes "hidden ") line)
    (λ m. Some (UpTo name (with_hidden s m) part.Hidden))
next_part name s part.Hidden line = and_then (found_after (codes "deaf ") line)
    (λ m. Some (Unsealed (record { name = name; field = Possible (with_deaf s m) })))

-- ---- states

-- the surveys that were read, and what was read of one more
pub record State : Type 0 where
  pub done : List SurveyValue
  pub begun : Option Begun

-- one more line
abbrev pub step_of : List SurveyValue → Option Begun → List ℕ → Option State
step_of done None line = and_then (name_in line)
    (λ name. Some (record { done = done; begun = Some (Named name) }))
step_of done (Some (Named name)) line = and_then (after_name name line)
    (λ b. Some (record { done = done; begun = Some b }))
step_of done (Some (UpTo name s p)) line = and_then (next_part name s p line)
    (λ b. Some (record { done = done; begun = Some b }))
step_of done (Some (Unsealed s)) line =
    if bytes_eq line (seal (lines_before s))
    then Some (record { done = done ++ s ∷ []; begun = None }) else None

abbrev pub step : State → List ℕ → Option State
step st line = step_of st.done st.begun line

-- line after line
abbrev pub run : State → List (List ℕ) → Option State
run st [] = Some st
run st (line ∷ lines) = and_then (step st line) (λ st. run st lines)

abbrev pub start : State
start = record { done = []; begun = None }

-- ---- the lines that were read

-- how many answers there are, certain UIDs and open masks
abbrev pub lists_of : FieldFacts → List (List ℕ)
lists_of s =
    (codes "answers " ++ decimal s.answers) ∷ map certain_line s.certain ++ map open_line s.«open»

-- what a possible log says, up to a part
abbrev pub lines_of_part : FieldFacts → Part → List (List ℕ)
lines_of_part s part.Possible = []
lines_of_part s part.Lists = lists_of s
lines_of_part s part.Margin = lists_of s ++ (codes "margin " ++ decimal s.margin) ∷ []
lines_of_part s part.Weakest =
    lists_of s ++ (codes "margin " ++ decimal s.margin)
    ∷ (codes "weakest " ++ mask_text s.weakest) ∷ []
lines_of_part s part.Hidden =
    lists_of s ++ (codes "margin " ++ decimal s.margin)
    ∷ (codes "weakest " ++ mask_text s.weakest) ∷ (codes "hidden " ++ found_text s.hidden) ∷ []

-- the lines of a survey that was begun
abbrev pub lines_of : Option Begun → List (List ℕ)
lines_of None = []
lines_of (Some (Named name)) = name_line name ∷ []
lines_of (Some (UpTo name s p)) = name_line name ∷ codes "possible" ∷ lines_of_part s p
lines_of (Some (Unsealed s)) = lines_before s

-- all lines
abbrev pub so_far : State → List (List ℕ)
so_far st = flat_map survey_lines st.done ++ lines_of st.begun

-- ---- what is known of a state

-- nothing was read yet of the lists, before the number of answers
abbrev pub IsAt : Part → FieldFacts → Type 0
IsAt part.Possible s = (s.certain ≡ []) × (s.«open» ≡ [])
IsAt part.Lists s = ⊤
IsAt part.Margin s = ⊤
IsAt part.Weakest s = ⊤
IsAt part.Hidden s = ⊤

-- what was read of a survey is in its ranges
abbrev pub IsBegun : Option Begun → Type 0
IsBegun None = ⊤
IsBegun (Some (Named name)) = IsName name
IsBegun (Some (UpTo name s p)) = IsName name × AreFactsInRange s × IsAt p s
IsBegun (Some (Unsealed s)) = IsSurvey s

abbrev pub IsState : State → Type 0
IsState st = AreSurveys st.done × IsBegun st.begun

-- the state after the lines that were read
abbrev pub IsReached : State → Type 0
IsReached st = IsState st × (run start (so_far st) ≡ Some st)
