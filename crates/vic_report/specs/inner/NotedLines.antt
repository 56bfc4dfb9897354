-- Lines that are noted for some UIDs, each at the place of its UID.
use Rattle.std.specs.Prelude.{◌≡◌, ℕ, ◌<◌, Bool, true, false, None, Some, Option, List, length, is_some, slice_index, slice_index_or}
use Rattle.vic_log.specs.declared.entry.LogLine.{LogLine}
use Rattle.vic_log.specs.Order.{entries}
use Rattle.vic_report.specs.Findings.{IsFirstReply, ShowsCertain}
use Rattle.vic_verdict.specs.Verdict.{IsHeard}

-- a line is noted at this place
abbrev pub is_noted : List (Option ℕ) → ℕ → Bool
is_noted noted i = is_some (slice_index_or noted i None)

-- the line with this number is noted at this place
abbrev pub IsNoted : List (Option ℕ) → ℕ → ℕ → Type 0
IsNoted noted i n = slice_index_or noted i None ≡ Some n

-- each line that is noted shows that the UID at its place is there
abbrev pub AreShown : List LogLine → List ℕ → List (Option ℕ) → Type 0
AreShown lines us noted =
    (i n : ℕ) → IsNoted noted i n → ShowsCertain lines n (slice_index us i)

-- each line that is noted is the first reply of the UID at its place
abbrev pub AreFirstReplies : List LogLine → List ℕ → List (Option ℕ) → Type 0
AreFirstReplies lines us noted =
    (i n : ℕ) → IsNoted noted i n → IsFirstReply lines n (slice_index us i)

-- and so it is if that UID was heard
abbrev pub AreShownFirst : List LogLine → List ℕ → List (Option ℕ) → Type 0
AreShownFirst lines us noted =
    (i n : ℕ) → i < length us → IsNoted noted i n
    → IsHeard (entries lines) (slice_index us i) → IsFirstReply lines n (slice_index us i)

-- lines were noted, which show that their UIDs are there: every UID that had a line still has it,
-- and every UID for which P holds has one
pub record HasNoted (lines : List LogLine) (us : List ℕ) (old new : List (Option ℕ))
    (P : ℕ → Type 0) : Type 0 where
  pub shown : AreShown lines us old → AreShown lines us new
  pub kept : (i n : ℕ) → IsNoted old i n → IsNoted new i n
  pub more : (i : ℕ) → i < length us → P (slice_index us i) → is_noted new i ≡ true

-- a line is noted at the place of a UID, where none was
pub record IsNewAt (us : List ℕ) (old : List (Option ℕ)) (u line i n : ℕ) : Type 0 where
  pub within : i < length us
  pub blank : is_noted old i ≡ false
  pub number : n ≡ line
  pub here : slice_index us i ≡ u
