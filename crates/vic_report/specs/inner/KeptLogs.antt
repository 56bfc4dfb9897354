-- A log that keeps some slot lines of another.
use Rattle.std.specs.Prelude.{◌≡◌, ℕ, ◌+◌, ◌++◌, ◌∷◌, Bool, true, false, List, [], length}
use Rattle.vic_frame.specs.Masks.{BitMask}
use Rattle.vic_frame.specs.declared.request.Request.TheVariants.{Inventory}
use Rattle.vic_log.specs.declared.entry.Entry.{Entry}
use Rattle.vic_log.specs.declared.entry.Entry.TheVariants.{Sent}
use Rattle.vic_log.specs.declared.entry.LogLine.{LogLine}
use Rattle.vic_log.specs.Log.{last_from}
use Rattle.vic_log.specs.Order.{entries, listed}
use Rattle.vic_log.specs.Populations.{answerers_at, Fits, CouldHaveGiven}
use Rattle.vic_log.specs.Quiet.{is_quiet}
use Rattle.vic_report.specs.declared.kept_log.TheConstants.{LINK}
use Rattle.vic_walk.specs.LogLines.{AreLogLines}

-- at the end of the first entries the same tags are Quiet as at position i of the second
abbrev pub SameQuiet : List Entry → List Entry → ℕ → Type 0
SameQuiet kept es i = (u : ℕ) → is_quiet kept (length kept) u ≡ is_quiet es i u

-- the lines of a log that lists nothing, numbered from 1: since the numbers rise from above 0, the
-- last is their count only if they are 1, 2, ..
pub record IsKeptLog (lines : List LogLine) : Type 0 where
  pub log : AreLogLines lines
  pub unlisted : listed (entries lines) ≡ []
  pub last : last_from 0 lines ≡ length lines

-- a request of one slot with this mask
abbrev pub one_slot : BitMask → Entry
one_slot m = Sent (Inventory LINK false m)

-- the entries with this one more, behind a request of one slot with this mask
abbrev pub with_slot : List Entry → BitMask → Entry → List Entry
with_slot es m e = (es ++ one_slot m ∷ []) ++ e ∷ []

-- `old` are the kept entries before position i is passed, and `new` those after: the same tags stay
-- Quiet, and a population that could have produced `old` could have produced `new`, if it fits
-- entry e at i or e isn't kept
pub record KeepsLine (es : List Entry) (i : ℕ) (is_kept : Bool) (e : Entry)
    (old new : List Entry) : Type 0 where
  pub quiet : SameQuiet old es i → SameQuiet new es (i + 1)
  pub given : (p : List ℕ) → SameQuiet old es i
      → (is_kept ≡ true → Fits e (answerers_at es i p))
      → CouldHaveGiven p old → CouldHaveGiven p new
