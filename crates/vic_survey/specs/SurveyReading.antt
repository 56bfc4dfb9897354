-- Which texts are those of surveys, and the first line of another one that is wrong (profile).
use Rattle.std.specs.Prelude.{◌≡◌, ◌⊎◌, ℕ, ◌+◌, false, ⊤, List, ◌∷◌, ◌++◌, length, []}
use Rattle.std.specs.List.{All}
use Rattle.vic_frame.specs.Uids.{has}
use Rattle.vic_log.specs.Lines.{lf}
use Rattle.vic_log.specs.Writing.{joined}
use Rattle.vic_survey.specs.Surveys.{SurveyValue, AreSurveys}
use Rattle.vic_survey.specs.SurveyText.{text_of}
use Rattle.vic_survey.specs.declared.fault.SurveysFault.{SurveysFault}
use Rattle.vic_survey.specs.declared.fault.SurveysFault.TheVariants.{Line, Memory}

-- some text of surveys begins with these bytes
abbrev pub BeginsSome : List ℕ → Type 0
BeginsSome front =
    (ss : List SurveyValue) × (rest : List ℕ) × AreSurveys ss × (text_of ss ≡ front ++ rest)

-- the bytes are a text of surveys
abbrev pub IsTextOfSome : List ℕ → Type 0
IsTextOfSome text = (ss : List SurveyValue) × AreSurveys ss × (text_of ss ≡ text)

-- no LF among the bytes
abbrev pub IsOneLine : List ℕ → Type 0
IsOneLine line = has line lf ≡ false

-- behind these bytes comes a line, with its LF, that no text of surveys has there; or the text ends
-- without a line more, and is none of surveys
abbrev pub IsWrongAfter : List ℕ → List ℕ → Type 0
IsWrongAfter front rest =
    ((line more : List ℕ) × (rest ≡ line ++ lf ∷ more) × IsOneLine line
    × (BeginsSome (front ++ (line ++ lf ∷ [])) → ⊥))
    ⊎ (IsOneLine rest × (IsTextOfSome (front ++ rest) → ⊥))

-- line n is the first wrong one: some text of surveys begins with the lines before it
pub record IsFirstWrong (text : List ℕ) (n : ℕ) : Type 0 where
  pub lines : List (List ℕ)
  pub rest : List ℕ
  pub split : text ≡ joined lines ++ rest
  pub single : All IsOneLine lines
  pub number : n ≡ length lines + 1
  pub begins : BeginsSome (joined lines)
  pub wrong : IsWrongAfter (joined lines) rest

-- why a text isn't read: its first wrong line, or refused memory
abbrev pub Refuses : List ℕ → SurveysFault → Type 0
Refuses text (Line n) = IsFirstWrong text n
Refuses text Memory = ⊤
