-- The text of surveys (profile): each is some lines and a seal, which says how many lines there are
-- and has the CRC of those before it.
use Rattle.std.specs.Prelude.{ℕ, ◌+◌, Option, Some, None, List, [], ◌∷◌, ◌++◌, length, map, codes, decimal}
use Rattle.std.specs.List.{flat_map}
use Rattle.vic_frame.specs.Crc.{crc}
use Rattle.vic_frame.specs.Masks.{BitMask}
use Rattle.vic_log.specs.Names.{line_fault_name}
use Rattle.vic_log.specs.Writing.{joined}
use Rattle.vic_report.specs.declared.shown.ShownUid.{ShownUid}
use Rattle.vic_text.specs.Digits.{hex_bytes, mask_text, uid_text}
use Rattle.vic_survey.specs.Surveys.{SurveyValue}
use Rattle.vic_survey.specs.declared.survey.SurveyedField.{SurveyedField}
use Rattle.vic_survey.specs.declared.survey.SurveyedField.TheVariants.{Refused, Impossible, Possible}
use Rattle.vic_survey.specs.declared.survey.FieldFacts.{FieldFacts}

-- a certain UID, and a line that shows it
abbrev pub certain_line : ShownUid → List ℕ
certain_line s = codes "certain " ++ uid_text s.uid ++ codes " by line " ++ decimal s.line

abbrev pub open_line : BitMask → List ℕ
open_line m = codes "open " ++ mask_text m

-- a mask, `-` if there is none
abbrev pub found_text : Option BitMask → List ℕ
found_text None = codes "-"
found_text (Some m) = mask_text m

-- what a possible log says, after the line `possible`
abbrev pub facts_lines : FieldFacts → List (List ℕ)
facts_lines s =
    (codes "answers " ++ decimal s.answers) ∷ map certain_line s.certain
    ++ map open_line s.«open»
    ++ (codes "margin " ++ decimal s.margin) ∷ (codes "weakest " ++ mask_text s.weakest)
    ∷ (codes "hidden " ++ found_text s.hidden) ∷ (codes "deaf " ++ found_text s.deaf) ∷ []

-- what a log says
abbrev pub field_lines : SurveyedField → List (List ℕ)
field_lines (Refused n fault) =
    (codes "refused at line " ++ decimal n ++ codes ": " ++ line_fault_name fault) ∷ []
field_lines (Impossible n) = (codes "impossible at line " ++ decimal n) ∷ []
field_lines (Possible s) = codes "possible" ∷ facts_lines s

-- the line of a name
abbrev pub name_line : List ℕ → List ℕ
name_line name = codes "vicinity-survey 1 " ++ name

-- the lines before the seal
abbrev pub lines_before : SurveyValue → List (List ℕ)
lines_before s = name_line s.name ∷ field_lines s.field

-- the seal of these lines: how many there are with it, and the CRC of their bytes
abbrev pub seal : List (List ℕ) → List ℕ
seal lines =
    codes "end " ++ decimal (length lines + 1) ++ codes " " ++ hex_bytes 2 (crc (joined lines))

-- all lines of a survey
abbrev pub survey_lines : SurveyValue → List (List ℕ)
survey_lines s = lines_before s ++ seal (lines_before s) ∷ []

-- the text of surveys: the lines of one behind those of the other, each with LF after it
abbrev pub text_of : List SurveyValue → List ℕ
text_of ss = joined (flat_map survey_lines ss)
