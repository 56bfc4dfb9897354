-- Faults that no further bytes can change, and what reading a source in pieces returns.
use Rattle.std.specs.Prelude.{◌≡◌, ◌⊎◌, ℕ, suc, ◌+◌, ◌≤◌, false, true, ⊤, Option, Some, Result, Ok, Err, List, length, slice_get}
use Rattle.std.specs.Io.KnownBytes.{IsAtEnd}
use Rattle.vic_log.specs.declared.entry.TheConstants.{MAX_LINE_LEN, MAX_LINES}
use Rattle.vic_log.specs.declared.fault.LineFault.{LineFault}
use Rattle.vic_log.specs.declared.fault.LogFault.{LogFault}
use Rattle.vic_log.specs.declared.fault.LogFault.TheVariants.{Line, Read, Memory, Spent}
use Rattle.vic_log.specs.Lines.{lf, cr, cut, ends_with, lines_of_text}
use Rattle.vic_log.specs.Log.{LogValue}
use Rattle.vic_log.specs.Text.{IsFirstFault, IsLogOf, GiveEntries}

-- bytes of one line that are too many whatever follows: more than a line and its CR, or one more
-- byte than a line, which isn't CR
abbrev pub IsLong : List ℕ → Type 0
IsLong part =
    (MAX_LINE_LEN + 2 ≤ length part)
    ⊎ ((MAX_LINE_LEN + 1 ≤ length part) × (ends_with cr part ≡ false))

-- a part that has its LF, or is too long
abbrev pub IsJudged : List ℕ → Type 0
IsJudged part = (ends_with lf part ≡ true) ⊎ IsLong part

-- f is the first fault, on line n, and that line has been judged, or is one too many
pub record IsEarlyFault (text : List ℕ) (n : ℕ) (f : LineFault) : Type 0 where
  pub fault : IsFirstFault (lines_of_text text) n f
  pub place : ℕ
  pub number : n ≡ suc place
  pub part : List ℕ
  pub there : slice_get (cut text) place ≡ Some part
  pub judged : IsJudged part ⊎ (n ≡ MAX_LINES + 1)

-- the fault of a line is early; memory is refused only after faultless lines with entries
abbrev pub IsEarly : LogFault → List ℕ → Type 0
IsEarly (Line n f) text = IsEarlyFault text n f
IsEarly Memory text = (n : ℕ) × GiveEntries (lines_of_text text) n
IsEarly Read text = ⊥
IsEarly Spent text = ⊥

-- bytes without a fault that no further byte can change
abbrev pub HasNoEarlyFault : List ℕ → Type 0
HasNoEarlyFault text = (n : ℕ) (f : LineFault) → IsEarlyFault text n f → ⊥

-- what reading these bytes returns; `IsOver` says that no more follow. At the end it is their log,
-- or the first fault; before the end an early fault. Memory is refused only after faultless lines
-- with entries, and a failed read is returned only if they have no early fault
abbrev pub ReadsWhere : Type 0 → List ℕ → Result LogValue LogFault → Type 0
ReadsWhere IsOver text (Ok log) = IsOver × IsLogOf (lines_of_text text) log
ReadsWhere IsOver text (Err Read) = HasNoEarlyFault text
ReadsWhere IsOver text (Err (Line n f)) =
    IsEarlyFault text n f ⊎ (IsOver × IsFirstFault (lines_of_text text) n f)
ReadsWhere IsOver text (Err Memory) = (n : ℕ) × GiveEntries (lines_of_text text) n
ReadsWhere IsOver text (Err Spent) = ⊥

-- the same about bytes that a source returned, by what it has left
abbrev pub ReadsAs : Option (List ℕ) → List ℕ → Result LogValue LogFault → Type 0
ReadsAs left text result = ReadsWhere (IsAtEnd left) text result

-- the log of a complete text, or its first fault, unless the text couldn't be read
abbrev pub Judges : List ℕ → Result LogValue LogFault → Type 0
Judges text (Ok log) = IsLogOf (lines_of_text text) log
Judges text (Err (Line n f)) = IsFirstFault (lines_of_text text) n f
Judges text (Err e) = ⊤
