-- Why a log is impossible (profile): no population fits all of some slot lines.
use Rattle.std.specs.Prelude.{◌≡◌, ◌≢◌, ℕ, ◌<◌, ◌≤◌, true, false, Some, List, slice_get, MatchOption}
use Rattle.std.specs.List.Sorted.{IsStrictlyIncreasing}
use Rattle.vic_frame.specs.Uids.{has}
use Rattle.vic_log.specs.declared.entry.Entry.TheVariants.{FieldCycle}
use Rattle.vic_log.specs.declared.entry.LogLine.{LogLine}
use Rattle.vic_log.specs.Order.{entries}
use Rattle.vic_log.specs.Populations.{IsPopulation, answerers_at, Fits}
use Rattle.vic_log.specs.Quiet.{is_quiet, silences}
use Rattle.vic_log.specs.Slots.{hears, tells}
use Rattle.vic_report.specs.declared.conflict.Conflict.{Conflict}
use Rattle.vic_verdict.specs.declared.judging.Verdict.TheVariants.{Impossible}
use Rattle.vic_verdict.specs.Verdict.{IsVerdict}

-- each line with one of these numbers fits the tags of the population that answer there
abbrev pub FitsLines : List LogLine → List ℕ → List ℕ → Type 0
FitsLines lines numbers p =
    (i : ℕ) (l : LogLine) → slice_get lines i ≡ Some l → has numbers l.number ≡ true
    → Fits l.item (answerers_at (entries lines) i p)

-- the line with this number is a slot line that tells something
pub record IsTellingLine (lines : List LogLine) (n : ℕ) : Type 0 where
  pub place : ℕ
  pub line : LogLine
  pub there : slice_get lines place ≡ Some line
  pub number : line.number ≡ n
  pub slot : tells line.item ≡ true

-- numbers of slot lines, in rising order, the last one n; no population fits all of these lines
pub record IsConflictAt (lines : List LogLine) (n : ℕ) (numbers : List ℕ) : Type 0 where
  pub rising : IsStrictlyIncreasing numbers
  pub ends : has numbers n ≡ true
  pub upto : (m : ℕ) → has numbers m ≡ true → m ≤ n
  pub slots : (m : ℕ) → has numbers m ≡ true → IsTellingLine lines m
  pub unfit : (p : List ℕ) → IsPopulation p → FitsLines lines numbers p → ⊥

-- the tag with UID u is Quiet at position i by the line with number n: the last Stay Quiet with the
-- UID before i, with no field cycle in between
pub record IsSilencedBefore (lines : List LogLine) (i u n : ℕ) : Type 0 where
  pub place : ℕ
  pub before : place < i
  pub line : LogLine
  pub there : slice_get lines place ≡ Some line
  pub number : line.number ≡ n
  pub stay_quiet : silences (Some line.item) u ≡ true
  pub last : (k : ℕ) → place < k → k < i → silences (slice_get (entries lines) k) u ≡ false
  pub powered : (k : ℕ) → place < k → k < i → slice_get (entries lines) k ≢ Some FieldCycle

-- the line with this number is a reply of a tag that the line with another number made Quiet there
pub record IsSilencedBy (lines : List LogLine) (n silencer : ℕ) : Type 0 where
  pub place : ℕ
  pub line : LogLine
  pub uid : ℕ
  pub there : slice_get lines place ≡ Some line
  pub number : line.number ≡ n
  pub reply : hears (Some line.item) uid ≡ true
  pub by : IsSilencedBefore lines place uid silencer

-- no line with this number is a reply of a tag that is Quiet there
abbrev pub IsNoQuietReply : List LogLine → ℕ → Type 0
IsNoQuietReply lines n =
    (i : ℕ) (l : LogLine) (u : ℕ) → slice_get lines i ≡ Some l → l.number ≡ n
    → hears (Some l.item) u ≡ true → is_quiet (entries lines) i u ≡ false

-- the first impossible line, slot lines up to it that no population fits, and, if and only if that
-- first line is a reply of a tag that was Quiet there, the line that silenced the tag
pub record IsConflict (lines : List LogLine) (c : Conflict) : Type 0 where
  pub line : IsVerdict lines (Impossible c.line)
  pub lines_unfit : IsConflictAt lines c.line c.lines.items
  pub silenced : MatchOption c.silenced_by (IsNoQuietReply lines c.line)
      (IsSilencedBy lines c.line)
