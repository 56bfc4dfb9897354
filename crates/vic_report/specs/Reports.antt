-- What a report on a log is (profile): its findings, or slot lines that no population fits.
use Rattle.std.specs.Prelude.{◌≡◌, ◌↔◌, ℕ, Bool, true, [], ◌∷◌, None, Some, Option, List, MatchOption}
use Rattle.std.specs.Option.{option_map}
use Rattle.std.specs.List.{All, Contains}
use Rattle.vic_frame.specs.Uids.{IsUid}
use Rattle.vic_frame.specs.Masks.{BitMask}
use Rattle.vic_tree.specs.declared.open_masks.OpenMasks.{OpenMasks}
use Rattle.vic_tree.specs.declared.open_masks.TheConstants.{MAX_OPEN_MASKS}
use Rattle.vic_tree.specs.OpenMasks.{AreFirst, IsOpenMask}
use Rattle.vic_log.specs.declared.entry.Entry.{Entry}
use Rattle.vic_log.specs.declared.entry.LogLine.{LogLine}
use Rattle.vic_log.specs.Order.{entries}
use Rattle.vic_report.specs.declared.findings.Findings.{Findings}
use Rattle.vic_report.specs.declared.findings.Unsettled.{Unsettled}
use Rattle.vic_report.specs.declared.reporting.LogReport.{LogReport}
use Rattle.vic_report.specs.declared.reporting.LogReport.TheVariants.{Impossible, NotWhole, Complete}
use Rattle.vic_verdict.specs.declared.judging.Verdict.{Verdict}
use Rattle.vic_verdict.specs.declared.judging.Verdict.TheVariants as verdict
use Rattle.vic_report.specs.Conflicts.{IsConflict}
use Rattle.vic_report.specs.Findings.{IsRuledOut, IsShownCertain, IsShownFirst, uids_of}
use Rattle.vic_verdict.specs.Possible.{IsPossible}
use Rattle.vic_verdict.specs.Differences.{IsUndecided, IsLeftOpen, MayBeMissing}
use Rattle.vic_verdict.specs.Rising.{IsListOf}
use Rattle.vic_verdict.specs.Verdict.{IsAbsent, IsUnlisted, IsFirstMask, IsVerdict, NoSuch}

-- the first open masks of the UIDs, listed or not, that may be there or not, which `set` has, and
-- whether there are more
pub record AreOpenMasks (es : List Entry) (o : OpenMasks) : Type 0 where
  pub set : ℕ → Bool
  pub uids : (u : ℕ) → IsUid u → (set u ≡ true) ↔ IsUndecided es u
  pub first : AreFirst MAX_OPEN_MASKS (IsOpenMask set) o.masks.items
  pub more : (o.more ≡ true)
      ↔ ((m : BitMask) × IsOpenMask set m × (Contains o.masks.items m → ⊥))

-- what is left to ask for
pub record IsLeftToAsk (es : List Entry) (x : Unsettled) : Type 0 where
  pub mask : IsFirstMask (IsLeftOpen es) x.mask
  pub open_masks : AreOpenMasks es x.open

-- the findings of a possible log. A UID has one finding at most: so the mask avoids certain UIDs
-- (`IsLeftOpen`), and the doubtful ones leave out the absent (`MayBeMissing`). A verdict needn't:
-- it is unsettled or doubtful only if no UID is absent or unlisted
pub record AreFindings (lines : List LogLine) (f : Findings) : Type 0 where
  pub absent : IsListOf (IsAbsent (entries lines)) (uids_of f.absent.items)
  pub absent_shown : All (IsRuledOut lines) f.absent.items
  pub unlisted : IsListOf (IsUnlisted (entries lines)) (uids_of f.unlisted.items)
  pub unlisted_shown : All (IsShownCertain lines) f.unlisted.items
  pub unlisted_first : All (IsShownFirst lines) f.unlisted.items
  pub unsettled : MatchOption f.unsettled (NoSuch (IsLeftOpen (entries lines)))
      (IsLeftToAsk (entries lines))
  pub doubtful : IsListOf (MayBeMissing (entries lines)) f.doubtful.items

-- there are no findings
pub record AreNone (f : Findings) : Type 0 where
  pub absent : f.absent.items ≡ []
  pub unlisted : f.unlisted.items ≡ []
  pub unsettled : f.unsettled ≡ None
  pub doubtful : f.doubtful.items ≡ []

-- the report on the lines of a log
abbrev pub IsReport : List LogLine → LogReport → Type 0
IsReport lines (Impossible c) = IsConflict lines c
IsReport lines (NotWhole f) =
    IsPossible (entries lines) × AreFindings lines f × (AreNone f → ⊥)
IsReport lines (Complete count) = IsVerdict lines (verdict.Complete count)

-- the first of some findings, which is the verdict; `Complete 0` if there is none
abbrev pub verdict_by : List ℕ → List ℕ → Option BitMask → List ℕ → Verdict
verdict_by (u ∷ absent) unlisted unsettled doubtful = verdict.Absent u
verdict_by [] (u ∷ unlisted) unsettled doubtful = verdict.Unlisted u
verdict_by [] [] (Some m) doubtful = verdict.Unsettled m
verdict_by [] [] None (u ∷ doubtful) = verdict.Doubtful u
verdict_by [] [] None [] = verdict.Complete 0

-- the first of the findings, as a verdict
abbrev pub first_verdict : Findings → Verdict
first_verdict f =
    verdict_by (uids_of f.absent.items) (uids_of f.unlisted.items)
    (option_map (λ x. x.mask) f.unsettled) f.doubtful.items

-- the verdict that a report begins with
abbrev pub verdict_of : LogReport → Verdict
verdict_of (Impossible c) = verdict.Impossible c.line
verdict_of (NotWhole f) = first_verdict f
verdict_of (Complete count) = verdict.Complete count
