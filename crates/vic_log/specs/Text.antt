-- The log of a text, or its first fault.
use Rattle.std.specs.Prelude.{◌≡◌, ◌≢◌, ℕ, zero, suc, ◌<◌, ◌≤◌, ◌==◌, Bool, ◌||◌, nat_lt, if◌then◌else◌, Option, Some, None, Result, Ok, Err, List, [], ◌∷◌, ◌++◌, length, slice_get, codes}
use Rattle.std.specs.Str.{bytes_eq}
use Rattle.vic_log.specs.declared.entry.TheConstants.{MAX_LINE_LEN, MAX_LINES}
use Rattle.vic_log.specs.declared.entry.Entry.{Entry}
use Rattle.vic_log.specs.declared.entry.LogLine.{LogLine}
use Rattle.vic_log.specs.declared.entry.Version.{Version}
use Rattle.vic_log.specs.declared.entry.Version.TheVariants.{V1, V2, V3}
use Rattle.vic_log.specs.declared.fault.LineFault.{LineFault}
use Rattle.vic_log.specs.declared.fault.LineFault.TheVariants.{TooManyLines, LineTooLong, Header, SlotOutsideRound, EntryAfterList, DuplicateListed}
use Rattle.vic_log.specs.declared.fault.LogFault.{LogFault}
use Rattle.vic_log.specs.declared.fault.LogFault.TheVariants.{Line, Read, Memory, Spent}
use Rattle.vic_log.specs.Order.{entries, first_reason}
use Rattle.vic_log.specs.Lines.{lines_of_text}
use Rattle.vic_log.specs.Log.{LogValue}
use Rattle.vic_log.specs.LineReading.{line_reading}

-- the first line of a log's text
abbrev pub header : Version → List ℕ
header V1 = codes "vicinity-log 1"
header V2 = codes "vicinity-log 2"
header V3 = codes "vicinity-log 3"

-- a line is the header of one of the versions
abbrev pub is_header : List ℕ → Bool
is_header line =
    bytes_eq line (header V1) || bytes_eq line (header V2) || bytes_eq line (header V3)

-- a first line names version 2 or 3 if it is the header of that version, and version 1 otherwise
abbrev pub named_version : Option (List ℕ) → Version
named_version (Some line) =
    if bytes_eq line (header V2) then V2 else if bytes_eq line (header V3) then V3 else V1
named_version None = V1

-- the version of a text is the one that its first line names
abbrev pub version_of : List (List ℕ) → Version
version_of lines = named_version (slice_get lines 0)

-- the first fault of an entry after others
abbrev pub order_fault : List Entry → Entry → Option LineFault
order_fault es e = first_reason SlotOutsideRound EntryAfterList DuplicateListed es e

-- the first fault of what a line after the header says, after the entries of the lines before
abbrev pub reading_fault : List Entry → Result (Option Entry) LineFault → Option LineFault
reading_fault es (Ok (Some e)) = order_fault es e
reading_fault es (Ok None) = None
reading_fault es (Err f) = Some f

-- the first fault of the line with this number in a text of this version, after the entries of the
-- lines before. A text without lines has no header
abbrev pub line_fault : Version → List Entry → ℕ → Option (List ℕ) → Option LineFault
line_fault version es number None = if number == 1 then Some Header else None
line_fault version es number (Some line) =
    if nat_lt MAX_LINES number then Some TooManyLines
    else if nat_lt MAX_LINE_LEN (length line) then Some LineTooLong
    else if number == 1 then (if is_header line then None else Some Header)
    else reading_fault es (line_reading version line)

-- the log line of what a line says, if that is an entry
abbrev pub entry_line : ℕ → Result (Option Entry) LineFault → List LogLine
entry_line number (Ok (Some e)) = record { number = number; item = e } ∷ []
entry_line number (Ok None) = []
entry_line number (Err f) = []

-- the log line of a line after the first, if it spells an entry
abbrev pub logged : Version → ℕ → Option (List ℕ) → List LogLine
logged version number None = []
logged version number (Some line) =
    if number == 1 then [] else entry_line number (line_reading version line)

-- the log lines of the lines 1 to n
abbrev pub log_upto : List (List ℕ) → ℕ → List LogLine
log_upto lines zero = []
log_upto lines (suc k) = log_upto lines k ++ logged (version_of lines) (suc k) (slice_get lines k)

-- the first fault of line n, read with the entries of the lines before it. There is no line 0
abbrev pub fault_on : List (List ℕ) → ℕ → Option LineFault
fault_on lines zero = None
fault_on lines (suc k) =
    line_fault (version_of lines) (entries (log_upto lines k)) (suc k) (slice_get lines k)

-- line n is the first that has a fault, and f is its first
pub record IsFirstFault (lines : List (List ℕ)) (n : ℕ) (f : LineFault) : Type 0 where
  pub here : fault_on lines n ≡ Some f
  pub first : (m : ℕ) → m < n → fault_on lines m ≡ None

-- no line has a fault, and the log has the log lines of all lines, and the version that the first
-- line names
pub record IsLogOf (lines : List (List ℕ)) (log : LogValue) : Type 0 where
  pub no_fault : (n : ℕ) → fault_on lines n ≡ None
  pub all : log.lines ≡ log_upto lines (length lines)
  pub version : log.version ≡ version_of lines

-- the lines 1 to n have no fault, and spell entries
pub record GiveEntries (lines : List (List ℕ)) (n : ℕ) : Type 0 where
  pub no_fault : (m : ℕ) → m ≤ n → fault_on lines m ≡ None
  pub some : log_upto lines n ≢ []

-- why a complete text has no log: its first fault, or refused memory after faultless lines with
-- entries
abbrev pub Refuses : List ℕ → LogFault → Type 0
Refuses text (Line n f) = IsFirstFault (lines_of_text text) n f
Refuses text Memory = (n : ℕ) × GiveEntries (lines_of_text text) n
Refuses text Read = ⊥
Refuses text Spent = ⊥
