-- What a log holds.
use Rattle.std.specs.Prelude.{◌≡◌, ℕ, ◌≤◌, Option, Some, None, List, [], ◌∷◌, ◌++◌, ⊤, slice_get}
use Rattle.vic_frame.specs.Requests.{IsInRange, IsValid}
use Rattle.vic_frame.specs.Replies.{IsReply}
use Rattle.vic_frame.specs.Uids.{IsUid}
use Rattle.vic_log.specs.declared.entry.Entry.{Entry}
use Rattle.vic_log.specs.declared.entry.Entry.TheVariants.{Sent, Silent, Collision, Heard, Listed, Garbled, FieldCycle, Captured, Unknown}
use Rattle.vic_log.specs.declared.entry.LogLine.{LogLine}
use Rattle.vic_log.specs.declared.entry.TheConstants.{MAX_LINES}
use Rattle.vic_log.specs.declared.entry.Version.{Version}
use Rattle.vic_log.specs.declared.entry.Version.TheVariants.{V1, V2}
use Rattle.vic_log.specs.declared.fault.PushFault.{PushFault}
use Rattle.vic_log.specs.declared.fault.PushFault.TheVariants.{Memory}
use Rattle.vic_log.specs.FirstVersion.{AreOfFirstVersion}
use Rattle.vic_log.specs.SecondVersion.{AreOfSecondVersion}
use Rattle.vic_log.specs.Order.{IsInOrder, entries, IsRisingFrom, AreValid}

-- a log as a value
pub record LogValue : Type 0 where
  pub lines : List LogLine
  pub version : Version

-- with these lines added
abbrev pub with_lines : LogValue → List LogLine → LogValue
with_lines log lines = record { lines = log.lines ++ lines; version = log.version }

-- with this line added
abbrev pub with_line : LogValue → ℕ → Entry → LogValue
with_line log number item = with_lines log (record { number = number; item = item } ∷ [])

-- the number of the last line, n if there is none
abbrev pub last_from : ℕ → List LogLine → ℕ
last_from n [] = n
last_from n (l ∷ lines) = last_from l.number lines

-- an entry's numbers are in the ranges of their types
abbrev pub IsTyped : Entry → Type 0
IsTyped (Sent q) = IsInRange q
IsTyped (Heard r) = IsReply r
IsTyped (Captured r) = IsReply r
IsTyped (Listed u) = IsUid u
IsTyped Silent = ⊤
IsTyped Collision = ⊤
IsTyped Garbled = ⊤
IsTyped FieldCycle = ⊤
IsTyped Unknown = ⊤

abbrev pub AreTyped : List Entry → Type 0
AreTyped es = (i : ℕ) (e : Entry) → slice_get es i ≡ Some e → IsTyped e

-- a request that was sent is valid
abbrev pub IsValidEntry : Entry → Type 0
IsValidEntry (Sent q) = IsValid q
IsValidEntry e = ⊤

-- the lines of a log: entries in order, on lines 2 to 1,000,000, in versions 1 and 2 only those
-- that they have
pub record IsLog (version : Version) (lines : List LogLine) : Type 0 where
  pub order : IsInOrder (entries lines)
  pub rising : IsRisingFrom 1 lines
  pub limit : last_from 1 lines ≤ MAX_LINES
  pub valid : AreValid (entries lines)
  pub typed : AreTyped (entries lines)
  pub first_version : version ≡ V1 → AreOfFirstVersion (entries lines)
  pub second_version : version ≡ V2 → AreOfSecondVersion (entries lines)

-- an entry is refused for its reason, or because memory was refused only if there is no reason
abbrev pub RefusesOr : Option PushFault → PushFault → Type 0
RefusesOr reason Memory = reason ≡ None
RefusesOr reason fault = reason ≡ Some fault
