-- What the operands of `reconcile` are together: a list of what is expected and logs, or a
-- collection (profile).
use Rattle.std.specs.Prelude.{◌≡◌, ◌⊎◌, ℕ, Bool, true, false, Some, None, List, [], ◌∷◌, slice_get, string_bytes, take}
use Rattle.std.specs.List.{All}
use Rattle.vic_log.specs.Lines.{lines_of_text}
use Rattle.vic_log.specs.Log.{LogValue}
use Rattle.vic_log.specs.Order.{entries, listed}
use Rattle.vic_log.specs.Text.{IsFirstFault, IsLogOf}
use Rattle.vic_log.specs.declared.entry.Entry.{Entry}
use Rattle.vic_log.specs.declared.entry.Entry.TheVariants as entry
use Rattle.vic_log.specs.declared.entry.LogLine.{LogLine}
use Rattle.vic_table.specs.Listed.{IsListCatalogue}
use Rattle.vic_collection.specs.Collections.{CollectionValue}
use Rattle.vic_operands.specs.Files.{File, HaveSurveysBy, IsRightBy}
use Rattle.vic_operands.specs.Gathered.{AreNamed, IsFirstWrongBy, IsGathered}
use Rattle.vic_operands.specs.Kinds.{is_list, kind_behind_list}
use Rattle.vic_operands.specs.declared.fault.OperandFault.{OperandFault}
use Rattle.vic_operands.specs.declared.fault.OperandFault.TheVariants as fault
use Rattle.vic_operands.specs.declared.fault.Refusal.{Refusal}
use Rattle.vic_operands.specs.declared.gathered.Gathered.{Gathered}
use Rattle.vic_operands.specs.declared.gathered.Gathered.TheVariants.{Usage, Refused, Collection}

-- ---- a list

-- the entry lists a UID
abbrev pub is_listed : Entry → Bool
is_listed (entry.Listed u) = true
is_listed (entry.Sent q) = false
is_listed (entry.Heard r) = false
is_listed (entry.Captured r) = false
is_listed entry.Silent = false
is_listed entry.Collision = false
is_listed entry.Garbled = false
is_listed entry.FieldCycle = false
is_listed entry.Unknown = false

-- every line lists a UID
abbrev pub IsList : List LogLine → Type 0
IsList lines = All (λ (l : LogLine). is_listed l.item ≡ true) lines

-- the number of the first line that lists no UID
pub record IsFirstNotListed (lines : List LogLine) (n : ℕ) : Type 0 where
  pub place : ℕ
  pub line : LogLine
  pub there : slice_get lines place ≡ Some line
  pub number : line.number ≡ n
  pub other : is_listed line.item ≡ false
  pub before : IsList (take place lines)

-- the text has a log that lists these UIDs, and nothing else
pub record HasList (text uids : List ℕ) : Type 0 where
  pub log : LogValue
  pub is_log : IsLogOf (lines_of_text text) log
  pub alone : IsList log.lines
  pub uids_are : uids ≡ listed (entries log.lines)

-- the text has a log, and this is its first line that lists no UID
abbrev pub IsNotListedAt : List ℕ → ℕ → Type 0
IsNotListedAt text n =
    (log : LogValue) × IsLogOf (lines_of_text text) log × IsFirstNotListed log.lines n

-- the first fault of a list, and its line
abbrev pub IsListFault : List ℕ → ℕ → OperandFault → Type 0
IsListFault text n (fault.List f) = IsFirstFault (lines_of_text text) n f
IsListFault text n fault.NotListed = IsNotListedAt text n
IsListFault text n (fault.Table f) = ⊥
IsListFault text n fault.Survey = ⊥
IsListFault text n fault.SameName = ⊥

-- ---- a list, and files behind it

-- the list has a fault
pub record IsListRefused (list : File) (r : Refusal) : Type 0 where
  pub name : string_bytes r.name ≡ list.name
  pub fault : IsListFault list.text r.line r.fault

-- the list has none, and the first text of surveys behind it that has one is refused
pub record AreLogsRefused (list : File) (logs : List File) (r : Refusal) : Type 0 where
  pub uids : List ℕ
  pub has_list : HasList list.text uids
  pub wrong : IsFirstWrongBy kind_behind_list logs r

abbrev pub IsRightBehindList : File → Type 0
IsRightBehindList f = IsRightBy (kind_behind_list f.text) f.text

-- the list is the catalogue, and the files behind it have the surveys
pub record AreListAndLogs (list : File) (logs : List File) (c : CollectionValue) : Type 0 where
  pub uids : List ℕ
  pub has_list : HasList list.text uids
  pub catalogue : IsListCatalogue c.catalogue uids
  pub no_rows : c.rows ≡ None
  pub right : All IsRightBehindList logs
  pub surveys : HaveSurveysBy kind_behind_list logs c.surveys

-- what a list and the files behind it are together
abbrev pub IsGatheredBehindList : File → List File → Gathered → Type 0
IsGatheredBehindList list logs Usage = AreNamed (list ∷ logs) → ⊥
IsGatheredBehindList list logs (Refused r) =
    AreNamed (list ∷ logs) × (IsListRefused list r ⊎ AreLogsRefused list logs r)
IsGatheredBehindList list logs (Collection c) =
    AreNamed (list ∷ logs) × AreListAndLogs list logs c

-- ---- the operands of `reconcile`

abbrev pub IsGatheredBy : Bool → File → List File → Gathered → Type 0
IsGatheredBy true first files gathered = IsGatheredBehindList first files gathered
IsGatheredBy false first files gathered = IsGathered (first ∷ files) gathered

-- what they are together: a list of what is expected, and logs, or a collection
abbrev pub IsGatheredToReconcile : List File → Gathered → Type 0
IsGatheredToReconcile [] gathered = IsGathered [] gathered
IsGatheredToReconcile (first ∷ files) gathered =
    IsGatheredBy (is_list first.text) first files gathered
