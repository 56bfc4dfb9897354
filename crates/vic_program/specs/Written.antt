-- What is written to standard output: an answer, a prefix of it, or nothing.
use Rattle.std.specs.Prelude.{◌≡◌, ℕ, true, false, List, ◌++◌, Err}
use Rattle.vic_log.specs.Device.{HasWrittenPrefix}
use Rattle.vic_answer.specs.Status.{fault_text}
use Rattle.vic_answer.specs.declared.status.RunFault.TheVariants.{Memory, Write}
use Rattle.vic_answer.specs.declared.status.Status.{Status}
use Rattle.vic_program.specs.Ends.{End}
use Rattle.vic_log.specs.declared.sink.Sink.{Ghosts as Sink}

-- a sink accepted an answer, and flushed it
pub record IsOut {W : Type 0} (w : Sink W) (output output' : W) (answer : List ℕ)
    : Type 0 where
  pub all : w.written output' ≡ w.written output ++ answer
  pub flushed : w.is_flushed output' ≡ true
  pub works : w.has_failed output' ≡ false

-- a sink failed, and accepted a prefix of an answer; one that had failed is untouched
pub record IsCut {W : Type 0} (w : Sink W) (output output' : W) (answer : List ℕ)
    : Type 0 where
  pub part : HasWrittenPrefix (w.written output) (w.written output') answer
  pub failed : w.has_failed output' ≡ true
  pub untouched : w.has_failed output ≡ true → output' ≡ output

-- the same, of some answer that is one of the command; the line says that writing failed
pub record WritesPart {W : Type 0} (w : Sink W) (IsAnswer : List ℕ → Status → Type 0)
    (output output' : W) (line : List ℕ) : Type 0 where
  pub line_is : line ≡ fault_text Write
  pub answer : List ℕ
  pub status : Status
  pub is : IsAnswer answer status
  pub cut : IsCut w output output' answer

-- the line says that memory was refused
abbrev pub IsOutOfMemory : List ℕ → Type 0
IsOutOfMemory line = line ≡ fault_text Memory

-- nothing was written, and the line says why
pub record WritesNothing {O : Type 0} (SaysWhy : List ℕ → Type 0) (output output' : O) (end : End)
    : Type 0 where
  pub line : List ℕ
  pub ends : end ≡ Err line
  pub why : SaysWhy line
  pub untouched : output' ≡ output
