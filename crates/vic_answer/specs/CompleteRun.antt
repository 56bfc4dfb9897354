-- What a run of `check`, `explain`, `report` or `margin` has read if it writes `complete`.
use Rattle.std.specs.Prelude.{◌≡◌, ℕ, true, List, ◌++◌, Some, Result, OnOk, codes, decimal}
use Rattle.std.specs.Io.KnownBytes.{Consumes, IsAtEnd}
use Rattle.vic_log.specs.declared.sink.Sink.{Ghosts as Sink}
use Rattle.vic_log.specs.declared.source.Source.{Ghosts as Source}
use Rattle.vic_answer.specs.CheckText.{HasCompleteList}

-- a text whose list is complete was read, and no more follows, and `rest` is the number of UIDs
-- that it lists in digits, and LF
pub record ReadsCompleteList (HasRead : List ℕ → Type 0) (IsOver : Type 0) (rest : List ℕ)
    : Type 0 where
  pub text : List ℕ
  pub read : HasRead text
  pub over : IsOver
  pub count : ℕ
  pub complete : HasCompleteList text count
  pub told : rest ≡ decimal count ++ codes "\n"

-- if a run wrote `complete` and a space, and then these bytes, its source's reads returned such a
-- text, until one returned none
abbrev pub IsCompleteWhereWritten : {R W A E : Type 0} → Source R → Sink W → R → R → W → W
    → Result A E → Type 0
IsCompleteWhereWritten r w source source' sink sink' result =
    OnOk result ((rest : List ℕ)
    → w.written sink' ≡ w.written sink ++ (codes "complete " ++ rest)
    → ReadsCompleteList (λ text. r.returned source' ≡ r.returned source ++ text)
    (r.ended source' ≡ true) rest)

-- the same over the bytes that the source and the sink revealed before and after
abbrev pub IsCompleteWhereRevealed : {R W A E : Type 0} → Source R → Sink W → R → R → W → W
    → Result A E → Type 0
IsCompleteWhereRevealed r w source source' sink sink' result =
    OnOk result ((before rest : List ℕ) → w.taken sink ≡ Some before
    → w.taken sink' ≡ Some (before ++ (codes "complete " ++ rest))
    → ReadsCompleteList (Consumes (r.left source) (r.left source')) (IsAtEnd (r.left source')) rest)

-- bytes that begin with some that are so
pub record BeginWith (AreSo : List ℕ → Type 0) (bytes : List ℕ) : Type 0 where
  pub front : List ℕ
  pub more : List ℕ
  pub right : AreSo front
  pub are : bytes ≡ front ++ more

-- of a run that may write more lines after `complete`: what it wrote next begins with the number
-- and LF
abbrev pub IsCompleteWhereWrittenFirst : {R W A E : Type 0} → Source R → Sink W → R → R → W → W
    → Result A E → Type 0
IsCompleteWhereWrittenFirst r w source source' sink sink' result =
    OnOk result ((rest : List ℕ)
    → w.written sink' ≡ w.written sink ++ (codes "complete " ++ rest)
    → BeginWith (ReadsCompleteList (λ text. r.returned source' ≡ r.returned source ++ text)
    (r.ended source' ≡ true)) rest)
