-- What is read and written by a command that reads one text to its end, before it writes anything.
use Rattle.std.specs.Prelude.{◌≡◌, ◌⊎◌, ◌↔◌, ℕ, true, false, List, Option, Some, None, Ok, Err}
use Rattle.vic_log.specs.Device.{Grows}
use Rattle.vic_log.specs.declared.source.ReadFault.{ReadFault}
use Rattle.vic_log.specs.declared.source.ReadFault.TheVariants as read
use Rattle.vic_answer.specs.Runs.{ForText}
use Rattle.vic_program.specs.Each.{IsTextOf, IsUnreadable, read_fault_line}
use Rattle.vic_program.specs.Ends.{End}
use Rattle.vic_program.specs.Written.{IsOut, IsOutOfMemory, WritesNothing, WritesPart}
use Rattle.vic_program.specs.FilesView.{FilesView}
use Rattle.vic_log.specs.declared.source.Source.{Ghosts as Source}
use Rattle.vic_log.specs.declared.sink.Sink.{Ghosts as Sink}

-- ---- standard input

-- it was read to its end, and its reads returned this text
pub record IsInputText {I : Type 0} (r : Source I) (input input' : I) (text : List ℕ)
    : Type 0 where
  pub returned : Grows (r.returned input) (r.returned input') text
  pub ended : r.ended input' ≡ true
  pub works : r.has_failed input' ≡ false

-- it wasn't read to its end, for this reason; if it had failed, it is untouched
pub record IsInputUnfinished {I : Type 0} (r : Source I) (input input' : I) (line : List ℕ)
    : Type 0 where
  pub fault : ReadFault
  pub failed : (fault ≡ read.Read) ↔ (r.has_failed input' ≡ true)
  pub line_is : line ≡ read_fault_line fault
  pub untouched : r.has_failed input ≡ true → input' ≡ input

-- ---- what is written

-- what was written for a text: what the command writes for it, or a prefix if the sink failed, or
-- nothing if memory was refused
abbrev pub WritesFor : {O : Type 0} → Sink O → ForText → List ℕ → O → O → End → Type 0
WritesFor w Writes text output output' (Ok status) =
    (answer : List ℕ) × Writes text answer status × IsOut w output output' answer
WritesFor w Writes text output output' (Err line) =
    WritesPart w (Writes text) output output' line
    ⊎ WritesNothing IsOutOfMemory output output' (Err line)

-- ---- the run

-- the text was read, and this was written for it
pub record IsReadAndAnswered {O : Type 0} (w : Sink O) (IsText : List ℕ → Type 0) (Writes : ForText)
    (output output' : O) (end : End) : Type 0 where
  pub text : List ℕ
  pub read : IsText text
  pub writes : WritesFor w Writes text output output' end

-- a command over the text in the file with this name
abbrev pub OverFileText : {T O : Type 0} → FilesView T → Sink O → ForText → List ℕ → O → O → End
    → Type 0
OverFileText f w Writes name output output' end =
    IsReadAndAnswered w (IsTextOf f name) Writes output output' end
    ⊎ WritesNothing (IsUnreadable f name) output output' end

-- a command over the text of standard input
abbrev pub OverInputText : {I O : Type 0} → Source I → Sink O → ForText → I → I → O → O
    → End → Type 0
OverInputText r w Writes input input' output output' end =
    IsReadAndAnswered w (IsInputText r input input') Writes output output' end
    ⊎ WritesNothing (IsInputUnfinished r input input') output output' end

-- a command over the text in the file that is named, or over that of standard input
abbrev pub OverText : {T I O : Type 0} → FilesView T → Source I → Sink O → ForText
    → Option (List ℕ) → I → I → O → O → End → Type 0
OverText f r w Writes (Some name) input input' output output' end =
    OverFileText f w Writes name output output' end × (input' ≡ input)
OverText f r w Writes None input input' output output' end =
    OverInputText r w Writes input input' output output' end
