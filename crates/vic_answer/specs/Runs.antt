-- What a run over a text reads and writes, and how it leaves its source and its sink.
use Rattle.std.specs.Prelude.{◌≡◌, ◌≢◌, ◌↔◌, ◌⊎◌, ◌≤◌, ℕ, ◌+◌, true, false, ⊤, List, Option, Some, Result, Ok, Err, OnOk, IfErr, IfOk}
use Rattle.std.specs.Io.KnownBytes.{Consumes, Appends, IsAtEnd}
use Rattle.vic_log.specs.declared.fault.LineFault.{LineFault}
use Rattle.vic_log.specs.declared.reader.TheConstants.{MAX_READS}
use Rattle.vic_log.specs.declared.sink.Sink.{Ghosts as Sink}
use Rattle.vic_log.specs.declared.source.Source.{Ghosts as Source}
use Rattle.vic_log.specs.Device.{HandsOut, Grows, HasTakenPrefix}
use Rattle.vic_log.specs.Early.{IsEarlyFault}
use Rattle.vic_answer.specs.declared.status.RunFault.{RunFault}
use Rattle.vic_answer.specs.declared.status.RunFault.TheVariants.{Read, Write, Memory}
use Rattle.vic_answer.specs.declared.status.Status.{Status}

-- ---- what was read

-- what it means of a source that it was read: these bytes were read; they were, and then a read
-- failed, after which the source may no longer reveal what is left; no more bytes follow
pub record Reading : Type 1 where
  pub HasRead : List ℕ → Type 0
  pub HasReadBeforeFault : List ℕ → Type 0
  pub IsOver : Type 0

-- by the bytes that its reads returned, until one returned none: of every source
abbrev pub as_returned : {R : Type 0} → Source R → R → R → Reading
as_returned r source source' = record {
  HasRead = Grows (r.returned source) (r.returned source');
  HasReadBeforeFault = Grows (r.returned source) (r.returned source');
  IsOver = r.ended source' ≡ true;
}

-- by the bytes that it reveals, which are those it has left: of a reader over memory. Of a source
-- that reveals none, as a file, this says nothing
abbrev pub as_revealed : {R : Type 0} → Source R → R → R → Reading
as_revealed r source source' = record {
  HasRead = Consumes (r.left source) (r.left source');
  HasReadBeforeFault = HandsOut (r.left source) (r.left source');
  IsOver = IsAtEnd (r.left source');
}

-- bytes with a fault that no further byte can change
pub record HasEarlyFault (text : List ℕ) : Type 0 where
  pub line : ℕ
  pub fault : LineFault
  pub early : IsEarlyFault text line fault

-- bytes that determine the answer: no more follow, or no further byte can change their fault
abbrev pub IsEnough : Type 0 → List ℕ → Type 0
IsEnough IsOver text = IsOver ⊎ HasEarlyFault text

-- bytes that determine the answer were read, and P holds of them
pub record ReadsEnough (reading : Reading) (P : List ℕ → Type 0) : Type 0 where
  pub text : List ℕ
  pub given : reading.HasRead text
  pub enough : IsEnough reading.IsOver text
  pub holds : P text

-- a read failed, and the bytes before have no early fault
pub record ReadsNoEarlyFault (reading : Reading) : Type 0 where
  pub text : List ℕ
  pub given : reading.HasReadBeforeFault text
  pub none : HasEarlyFault text → ⊥

-- ---- what was written

-- what a command does for a text: what it writes, and its status
abbrev pub ForText : Type 1
ForText = List ℕ → List ℕ → Status → Type 0

-- a sink accepted a text, or a prefix of it if that failed
pub record Accepts {A : Type 0} (taken taken' : Option (List ℕ)) (text : List ℕ)
    (result : Result A RunFault) : Type 0 where
  pub all : OnOk result (Appends taken taken' text)
  pub part : HasTakenPrefix taken taken' text

-- a text was written, with this status, or a prefix of it
abbrev pub IsWritten : List ℕ → Status → List ℕ → List ℕ → Result Status RunFault → Type 0
IsWritten text status written written' result =
    IfOk result (λ s. s ≡ status) × Accepts (Some written) (Some written') text result

-- ---- a run

-- enough was read, and the sink accepted what the command writes for it, or a prefix of that, as
-- Accepted says
abbrev pub ReadsAndWrites : ForText → Reading
    → (Option (List ℕ) → Option (List ℕ) → List ℕ → Type 0)
    → Option (List ℕ) → Option (List ℕ) → Status → Type 0
ReadsAndWrites IsAnswerTo reading Accepted taken taken' status =
    ReadsEnough reading (λ text.
    (answer : List ℕ) × IsAnswerTo text answer status × Accepted taken taken' answer)

-- what the run of a command read and wrote, by its result: all that the command writes, or a prefix
-- if the sink failed; if the source failed, there was no answer yet
abbrev pub Runs : ForText → Reading → Option (List ℕ) → Option (List ℕ)
    → Result Status RunFault → Type 0
Runs IsAnswerTo reading taken taken' (Ok status) =
    ReadsAndWrites IsAnswerTo reading Appends taken taken' status
Runs IsAnswerTo reading taken taken' (Err Write) =
    (status : Status) × ReadsAndWrites IsAnswerTo reading HasTakenPrefix taken taken' status
Runs IsAnswerTo reading taken taken' (Err Read) = ReadsNoEarlyFault reading
Runs IsAnswerTo reading taken taken' (Err Memory) = ⊤

-- for every source and sink, by the bytes that the reads returned and that the writes accepted
abbrev pub RunsOver : {R W : Type 0} → ForText → Source R → Sink W → R → R → W → W
    → Result Status RunFault → Type 0
RunsOver IsAnswerTo r w source source' sink sink' result =
    Runs IsAnswerTo (as_returned r source source')
    (Some (w.written sink)) (Some (w.written sink')) result

-- the same by the bytes that they reveal: those that are left in the source, and those in the sink
abbrev pub RunsOverRevealed : {R W : Type 0} → ForText → Source R → Sink W → R → R → W → W
    → Result Status RunFault → Type 0
RunsOverRevealed IsAnswerTo r w source source' sink sink' result =
    Runs IsAnswerTo (as_revealed r source source') (w.taken sink) (w.taken sink') result

-- ---- how it leaves them

-- a source was read at most `MAX_READS` times, and not at all if it had failed before
pub record IsReadWithin {R : Type 0} (r : Source R) (source source' : R) : Type 0 where
  pub at_most : r.reads source' ≤ r.reads source + MAX_READS
  pub untouched : r.has_failed source ≡ true → source' ≡ source

-- how a run leaves its source: failed if and only if the result is `Read`
pub record LeavesSource {R A : Type 0} (r : Source R) (source source' : R)
    (result : Result A RunFault) : Type 0 where
  pub works : OnOk result (r.has_failed source' ≡ false)
  pub read : IfErr result (λ e. (e ≡ Read) ↔ (r.has_failed source' ≡ true))
  pub within : IsReadWithin r source source'

-- how a run leaves its sink: flushed if the run ended without a fault, failed if the result is
-- `Write`, untouched at any other fault and if it had failed before
pub record LeavesSink {W A : Type 0} (w : Sink W) (sink sink' : W)
    (result : Result A RunFault) : Type 0 where
  pub flushed : OnOk result (w.is_flushed sink' ≡ true)
  pub works : OnOk result (w.has_failed sink' ≡ false)
  pub write : IfErr result (λ e. e ≡ Write → w.has_failed sink' ≡ true)
  pub unwritten : IfErr result (λ e. e ≢ Write → sink' ≡ sink)
  pub untouched : w.has_failed sink ≡ true → sink' ≡ sink

-- a sink accepted a text and flushed it, or failed and accepted a prefix of it, as its writes
-- accepted it and as it reveals it
pub record Writes {W A : Type 0} (w : Sink W) (sink sink' : W) (text : List ℕ)
    (result : Result A RunFault) : Type 0 where
  pub accepts : Accepts (Some (w.written sink)) (Some (w.written sink')) text result
  pub accepts_revealed : Accepts (w.taken sink) (w.taken sink') text result
  pub fault : IfErr result (λ e. e ≡ Write)
  pub leaves_sink : LeavesSink w sink sink' result
