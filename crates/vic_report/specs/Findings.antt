-- The lines that show the findings of a possible log (profile).
use Rattle.std.specs.Prelude.{◌≡◌, ◌≢◌, ◌⊎◌, ℕ, ◌<◌, true, false, Some, List, slice_get, map}
use Rattle.vic_log.specs.declared.entry.Entry.{Entry}
use Rattle.vic_log.specs.declared.entry.Entry.TheVariants.{Collision, Heard, Garbled, Captured}
use Rattle.vic_log.specs.declared.entry.LogLine.{LogLine}
use Rattle.vic_log.specs.Order.{entries}
use Rattle.vic_log.specs.Overlooked.{is_overlooked}
use Rattle.vic_log.specs.Populations.{answers_at}
use Rattle.vic_log.specs.Slots.{hears}
use Rattle.vic_report.specs.declared.shown.ShownUid.{ShownUid}
use Rattle.vic_verdict.specs.Possible.{IsPossibleUid}
use Rattle.vic_verdict.specs.Verdict.{IsHeard, IsLeast}

-- the line with this number rules the UID out: a tag with it would answer in its slot, and the slot
-- lacks its reply
pub record RulesOut (lines : List LogLine) (n u : ℕ) : Type 0 where
  pub place : ℕ
  pub line : LogLine
  pub there : slice_get lines place ≡ Some line
  pub number : line.number ≡ n
  pub overlooked : is_overlooked (entries lines) place u ≡ true

-- the UID is possible and, if it is in the field, answers in the slot at position i
abbrev pub MayAnswer : List Entry → ℕ → ℕ → Type 0
MayAnswer es i u = IsPossibleUid es u × (answers_at es i u ≡ true)

-- the slot at position i, with this entry, shows that the UID is there: by its reply; or, if two or
-- more tags answered, as one of the only two UIDs that may have; or, if one or more did, as the
-- only one
abbrev pub ShowsAt : List Entry → ℕ → ℕ → Entry → Type 0
ShowsAt es i u (Heard r) = r.uid ≡ u
ShowsAt es i u (Captured r) = r.uid ≡ u
ShowsAt es i u Collision =
    MayAnswer es i u
    × ((v : ℕ) × (v ≢ u) × MayAnswer es i v
    × ((w : ℕ) → MayAnswer es i w → (w ≡ u) ⊎ (w ≡ v)))
ShowsAt es i u Garbled = MayAnswer es i u × ((w : ℕ) → MayAnswer es i w → w ≡ u)
ShowsAt es i u e = ⊥

-- the line with this number shows that the UID is there
pub record ShowsCertain (lines : List LogLine) (n u : ℕ) : Type 0 where
  pub place : ℕ
  pub line : LogLine
  pub there : slice_get lines place ≡ Some line
  pub number : line.number ≡ n
  pub shows : ShowsAt (entries lines) place u line.item

-- the line with this number is the first reply of the UID
pub record IsFirstReply (lines : List LogLine) (n u : ℕ) : Type 0 where
  pub place : ℕ
  pub line : LogLine
  pub there : slice_get lines place ≡ Some line
  pub number : line.number ≡ n
  pub reply : hears (Some line.item) u ≡ true
  pub first : (k : ℕ) → k < place → hears (slice_get (entries lines) k) u ≡ false

-- the line beside a UID rules it out, and no earlier line does
abbrev pub IsRuledOut : List LogLine → ShownUid → Type 0
IsRuledOut lines s = IsLeast (λ n. RulesOut lines n s.uid) s.line

-- the line beside a UID shows that it is there
abbrev pub IsShownCertain : List LogLine → ShownUid → Type 0
IsShownCertain lines s = ShowsCertain lines s.line s.uid

-- the line beside a UID is its first reply, if it was heard
abbrev pub IsShownFirst : List LogLine → ShownUid → Type 0
IsShownFirst lines s = IsHeard (entries lines) s.uid → IsFirstReply lines s.line s.uid

-- the UIDs of a list, without their lines
abbrev pub uids_of : List ShownUid → List ℕ
uids_of shown = map (λ s. s.uid) shown
