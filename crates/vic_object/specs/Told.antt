-- What the object of a log tells: the report on the log, what its two cautious readings say of the
-- same list, and what it says of its field, whatever it lists.
use Rattle.std.specs.Prelude.{◌≡◌, ◌↔◌, ℕ, ◌%◌, Bool, true, Option, Some, None, List, [], ◌∷◌, ⊤, length, map, sum, take}
use Rattle.vic_frame.specs.declared.request.Request.{Request}
use Rattle.vic_frame.specs.declared.request.Request.TheVariants.{Inventory, StayQuiet}
use Rattle.vic_frame.specs.Masks.{BitMask, least_uid_in}
use Rattle.vic_frame.specs.Uids.{IsUid}
use Rattle.vic_log.specs.Deaf.{deaf_entries, hidden_entries}
use Rattle.vic_log.specs.Order.{entries, numbers}
use Rattle.vic_log.specs.declared.entry.Entry.{Entry}
use Rattle.vic_log.specs.declared.entry.Entry.TheVariants.{Sent}
use Rattle.vic_log.specs.declared.entry.LogLine.{LogLine}
use Rattle.vic_tree.specs.Counted.{size_of}
use Rattle.vic_tree.specs.OpenMasks.{AreAll, IsOpenMask}
use Rattle.vic_verdict.specs.Differences.{IsUndecided}
use Rattle.vic_verdict.specs.Possible.{IsCertainUid, IsPossible, IsPossibleUid}
use Rattle.vic_verdict.specs.Rising.{IsListOf}
use Rattle.vic_verdict.specs.Verdict.{IsVerdict}
use Rattle.vic_verdict.specs.declared.judging.Verdict.{Verdict}
use Rattle.vic_verdict.specs.declared.judging.Verdict.TheVariants.{Absent, Complete, Doubtful, Impossible, Unlisted, Unsettled}
use Rattle.vic_report.specs.Reports.{IsReport, verdict_of}
use Rattle.vic_margin.specs.Margins.{IsWeakest}
use Rattle.vic_margin.specs.UidMargins.{margin_of}
use Rattle.vic_margin.specs.declared.answer.Weakest.{Weakest}
use Rattle.vic_object.specs.Asking.{asks_for}
use Rattle.vic_object.specs.Finding.{findings_told}
use Rattle.vic_object.specs.declared.finding.TheConstants.{MOST_TOLD}
use Rattle.vic_object.specs.declared.told.FieldTold.{FieldTold}
use Rattle.vic_object.specs.declared.told.LogTold.{LogTold}
use Rattle.vic_object.specs.declared.told.CautiousReading.{CautiousReading}

-- ---- the margin, and the cautious readings

-- the margin of entries with this verdict, if their list is complete
abbrev pub IsWeakestIfComplete : List Entry → Verdict → Option Weakest → Type 0
IsWeakestIfComplete es (Complete count) (Some w) = IsWeakest es w
IsWeakestIfComplete es (Complete count) None = ⊥
IsWeakestIfComplete es v (Some w) = ⊥
IsWeakestIfComplete es v None = ⊤

-- what other lines tell of a log whose verdict is v: their verdict, whether that is v too, their
-- margin, and whether each UID that they leave possible is certain in the log
pub record IsToldBy (lines others : List LogLine) (v : Verdict) (r : CautiousReading) : Type 0 where
  pub verdict : IsVerdict others r.verdict
  pub holds : (r.holds ≡ true) ↔ (r.verdict ≡ v)
  pub weakest : IsWeakestIfComplete (entries others) r.verdict r.weakest
  pub settled : (r.settled ≡ true)
      ↔ ((u : ℕ) → IsPossibleUid (entries others) u → IsCertainUid (entries lines) u)

-- that, of lines with these entries and with the numbers of the log's lines
pub record IsCautiousReading (lines : List LogLine) (es : List Entry) (v : Verdict)
    (r : CautiousReading) : Type 0 where
  pub others : List LogLine
  pub entries_are : entries others ≡ es
  pub numbers_are : numbers others ≡ numbers lines
  pub told : IsToldBy lines others v r

-- ---- the field

-- P if the log is possible, and Q if it isn't
abbrev pub WherePossible : List LogLine → Type 0 → Type 0 → Type 0
WherePossible lines P Q =
    (IsPossible (entries lines) → P) × ((IsPossible (entries lines) → ⊥) → Q)

-- the UIDs that are certain in a log, none if it is impossible
abbrev pub AreCertainIn : List LogLine → List ℕ → Type 0
AreCertainIn lines us =
    WherePossible lines (IsListOf (IsCertainUid (entries lines)) us) (us ≡ [])

-- all open masks of the UIDs that are possible in a log and not certain
pub record AreAllOpen (lines : List LogLine) (ms : List BitMask) : Type 0 where
  pub set : ℕ → Bool
  pub uids : (u : ℕ) → IsUid u → (set u ≡ true) ↔ IsUndecided (entries lines) u
  pub all : AreAll (IsOpenMask set) ms

-- the same, none if it is impossible
abbrev pub AreOpenIn : List LogLine → List BitMask → Type 0
AreOpenIn lines ms = WherePossible lines (AreAllOpen lines ms) (ms ≡ [])

-- the link of a request, and that of the first request of entries; 2, high data rate and one
-- sub-carrier, if there is none
abbrev pub link_in : Request → ℕ
link_in (Inventory link sixteen m) = link % 4
link_in (StayQuiet link u) = link % 4

abbrev pub link_of : List Entry → ℕ
link_of [] = 2
link_of (Sent q ∷ es) = link_in q
link_of (e ∷ es) = link_of es

-- what a log says of its field, nothing if it is impossible: its certain UIDs, how many masks are
-- open and how many UIDs these have, and what asks for the first of them
pub record IsFieldTold (lines : List LogLine) (f : FieldTold) : Type 0 where
  pub certain : AreCertainIn lines f.certain.items
  pub all : List BitMask
  pub are_all : AreOpenIn lines all
  pub masks : f.masks ≡ length all
  pub uids : f.uids ≡ sum (map size_of all)
  pub asked : map (λ a. a.mask) f.asked.items ≡ take MOST_TOLD all
  pub requests : map (λ a. a.requests.items) f.asked.items
      ≡ map (asks_for (entries lines) (link_of (entries lines))) (take MOST_TOLD all)

-- ---- all of it

-- the least UID of an unsettled mask
abbrev pub unnoticed_of : Verdict → Option ℕ
unnoticed_of (Unsettled m) = Some (least_uid_in m)
unnoticed_of (Complete count) = None
unnoticed_of (Absent u) = None
unnoticed_of (Unlisted u) = None
unnoticed_of (Doubtful u) = None
unnoticed_of (Impossible n) = None

-- what the lines of a log tell
pub record IsTold (lines : List LogLine) (t : LogTold) : Type 0 where
  pub report : IsReport lines t.report
  pub findings : t.findings.items ≡ findings_told (margin_of (entries lines)) t.report
  pub weakest : IsWeakestIfComplete (entries lines) (verdict_of t.report) t.weakest
  pub hidden :
      IsCautiousReading lines (hidden_entries (entries lines)) (verdict_of t.report) t.hidden
  pub deaf : IsCautiousReading lines (deaf_entries (entries lines)) (verdict_of t.report) t.deaf
  pub field : IsFieldTold lines t.field
  pub unnoticed : t.unnoticed ≡ unnoticed_of (verdict_of t.report)
