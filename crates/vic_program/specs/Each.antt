-- What is read and written by a command that takes one file after the other.
use Rattle.std.specs.Prelude.{◌≡◌, ◌⊎◌, ◌↔◌, ℕ, true, false, List, ◌∷◌, ◌++◌, Ok, Err, codes}
use Rattle.std.specs.List.{All, AllZip}
use Rattle.vic_log.specs.Device.{Grows}
use Rattle.vic_log.specs.declared.source.ReadFault.{ReadFault}
use Rattle.vic_log.specs.declared.source.ReadFault.TheVariants as read
use Rattle.vic_answer.specs.Status.{fault_text}
use Rattle.vic_answer.specs.declared.status.RunFault.TheVariants.{Memory, Read}
use Rattle.vic_answer.specs.declared.status.Status.{Status}
use Rattle.vic_survey.specs.Names.{IsName}
use Rattle.vic_program.specs.Ends.{End, usage_line}
use Rattle.vic_program.specs.Written.{IsOut, IsOutOfMemory, WritesNothing, WritesPart}
use Rattle.vic_program.specs.FilesView.{FilesView}
use Rattle.vic_log.specs.declared.sink.Sink.{Ghosts as Sink}

-- the type of what relates names and texts to what a command writes for them, and to its status
abbrev pub ForTexts : Type 1
ForTexts = List (List ℕ) → List (List ℕ) → List ℕ → Status → Type 0

-- ---- one file

-- a file that was opened by this name was read to its end, and returned this text
pub record IsTextOf {T : Type 0} (f : FilesView T) (name text : List ℕ) : Type 0 where
  pub file : T
  pub returned : Grows (f.origin name) (f.reading.returned file) text
  pub ended : f.reading.ended file ≡ true
  pub works : f.reading.has_failed file ≡ false

-- the file with this name couldn't be opened, and this line says so
pub record IsUnopened {T : Type 0} (f : FilesView T) (name line : List ℕ) : Type 0 where
  pub refuses : f.Refuses name
  pub line_is : line ≡ codes "vicinity: cannot open " ++ name

-- why a source wasn't read to its end
abbrev pub read_fault_line : ReadFault → List ℕ
read_fault_line read.Read = fault_text Read
read_fault_line read.Memory = fault_text Memory

-- a file that was opened by this name wasn't read to its end, for this reason
pub record IsUnfinished {T : Type 0} (f : FilesView T) (name line : List ℕ) : Type 0 where
  pub file : T
  pub text : List ℕ
  pub returned : Grows (f.origin name) (f.reading.returned file) text
  pub fault : ReadFault
  pub failed : (fault ≡ read.Read) ↔ (f.reading.has_failed file ≡ true)
  pub line_is : line ≡ read_fault_line fault

-- the text of the file with this name isn't known, for this reason
abbrev pub IsUnreadable : {T : Type 0} → FilesView T → List ℕ → List ℕ → Type 0
IsUnreadable f name line = IsUnopened f name line ⊎ IsUnfinished f name line

-- ---- many files, in their order

-- the files with these names were read to their ends, and P holds of their texts
pub record ReadsEach {T : Type 0} (f : FilesView T) (names : List (List ℕ))
    (P : List (List ℕ) → Type 0) : Type 0 where
  pub texts : List (List ℕ)
  pub each : AllZip (IsTextOf f) names texts
  pub holds : P texts

-- the files before one of them were read to their ends, and that one wasn't
pub record StopsEarly {T : Type 0} (f : FilesView T) (names : List (List ℕ))
    (line : List ℕ) : Type 0 where
  pub before : List (List ℕ)
  pub name : List ℕ
  pub after : List (List ℕ)
  pub names_are : names ≡ before ++ name ∷ after
  pub texts : List (List ℕ)
  pub each : AllZip (IsTextOf f) before texts
  pub stopped : IsUnreadable f name line

-- ---- the run

-- the command doesn't take the files: a name isn't one of a log, or it writes nothing for the texts
pub record IsNotTaken {T : Type 0} (f : FilesView T) (Writes : ForTexts)
    (names : List (List ℕ)) (line : List ℕ) : Type 0 where
  pub line_is : line ≡ usage_line
  pub why : (All IsName names → ⊥)
      ⊎ ReadsEach f names (λ texts. (answer : List ℕ) (status : Status)
      → Writes names texts answer status → ⊥)

-- why nothing is written: the files aren't taken, one of them wasn't read, or memory was refused
abbrev pub SaysWhyNothing : {T : Type 0} → FilesView T → ForTexts → List (List ℕ) → List ℕ → Type 0
SaysWhyNothing f Writes names line =
    IsNotTaken f Writes names line ⊎ (StopsEarly f names line ⊎ IsOutOfMemory line)

-- a command over the files with these names, which are read one after the other; nothing is written
-- before all are read
abbrev pub OverEach : {T O : Type 0} → FilesView T → Sink O → ForTexts
    → List (List ℕ) → O → O → End → Type 0
OverEach f w Writes names output output' (Ok status) =
    ReadsEach f names (λ texts. (answer : List ℕ)
    × Writes names texts answer status × IsOut w output output' answer)
OverEach f w Writes names output output' (Err line) =
    WritesNothing (SaysWhyNothing f Writes names) output output' (Err line)
    ⊎ ReadsEach f names (λ texts. WritesPart w (Writes names texts) output output' line)
