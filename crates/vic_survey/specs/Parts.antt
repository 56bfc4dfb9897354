-- The lists of a survey: UIDs with their lines, and masks.
use Rattle.std.specs.Prelude.{ℕ, ◌^◌, ◌<◌, ◌≤◌, List}
use Rattle.std.specs.List.{All, AllPairs}
use Rattle.std.specs.List.Sorted.{IsStrictlyIncreasing}
use Rattle.vic_frame.specs.declared.uid.TheConstants.{UID_BITS}
use Rattle.vic_frame.specs.Masks.{BitMask}
use Rattle.vic_frame.specs.Uids.{IsUid}
use Rattle.vic_tree.specs.OpenMasks.{ComesBefore}
use Rattle.vic_report.specs.declared.shown.ShownUid.{ShownUid}
use Rattle.vic_report.specs.Findings.{uids_of}
use Rattle.vic_survey.specs.declared.rising.TheConstants.{MAX_LINE_NUMBER}

-- the number of a line of a text, up to that of the first line too many
abbrev pub IsLineNumber : ℕ → Type 0
IsLineNumber n = (1 ≤ n) × (n ≤ MAX_LINE_NUMBER)

-- UIDs in rising order, each with the number of a line
pub record AreRisingUids (certain : List ShownUid) : Type 0 where
  pub rising : IsStrictlyIncreasing (uids_of certain)
  pub uids : All (λ (s : ShownUid). IsUid s.uid × IsLineNumber s.line) certain

-- a mask of at most 56 bits
abbrev pub IsShort : BitMask → Type 0
IsShort m = (m.len ≤ UID_BITS) × (m.value < 2 ^ m.len)

-- masks of at most 56 bits, by length, then by value
pub record AreRisingMasks (masks : List BitMask) : Type 0 where
  pub rising : AllPairs ComesBefore masks
  pub short : All IsShort masks
