-- What logs tell together, by their texts, of what is expected (profile): over all families of
-- populations that may have been in their fields.
use Rattle.std.specs.Prelude.{◌≡◌, ◌↔◌, ℕ, ◌^◌, ◌<◌, ◌≤◌, Bool, true, false, Some, List, [], is_some, map, slice_get, MatchOption}
use Rattle.std.specs.List.{All, Contains}
use Rattle.std.specs.Option.{option_map}
use Rattle.vic_frame.specs.declared.uid.TheConstants.{UID_BITS}
use Rattle.vic_frame.specs.Masks.{BitMask, lies_in}
use Rattle.vic_frame.specs.Uids.{IsUid, has}
use Rattle.vic_log.specs.Lines.{lines_of_text}
use Rattle.vic_log.specs.Log.{LogValue}
use Rattle.vic_log.specs.Text.{IsLogOf}
use Rattle.vic_tree.specs.declared.open_masks.OpenMasks.{OpenMasks}
use Rattle.vic_tree.specs.declared.open_masks.TheConstants.{MAX_OPEN_MASKS}
use Rattle.vic_tree.specs.OpenMasks.{AreFirst, IsOpenMask}
use Rattle.vic_verdict.specs.Rising.{IsListOf}
use Rattle.vic_verdict.specs.Verdict.{IsFirstMask, IsLeast, NoSuch}
use Rattle.vic_report.specs.declared.findings.Findings.{Findings as LogFindings}
use Rattle.vic_report.specs.Findings.{ShowsCertain, uids_of}
use Rattle.vic_collection.specs.declared.findings.Findings.{Findings}
use Rattle.vic_collection.specs.declared.unlisted.UnlistedUid.{UnlistedUid}
use Rattle.vic_collection.specs.Collections.{CollectionValue, is_of_item}
use Rattle.vic_collection.specs.Complete.{HasPossibleLog}
use Rattle.vic_collection.specs.Families.{FitsTexts, IsCertainIn, IsCertainUid, IsPossibleIn, IsPossibleUid, is_somewhere}

-- ---- one log of several

-- the log at this position has the property
abbrev pub IsLogWith : (List ℕ → Type 0) → List (List ℕ) → ℕ → Type 0
IsLogWith P texts k = (text : List ℕ) × (slice_get texts k ≡ Some text) × P text

-- it is the first such log
abbrev pub IsFirstLogWith : (List ℕ → Type 0) → List (List ℕ) → ℕ → Type 0
IsFirstLogWith P texts k = IsLeast (IsLogWith P texts) k

-- the UID may be in the field of the log, and may not
abbrev pub IsUndecidedIn : ℕ → List ℕ → Type 0
IsUndecidedIn u text = IsPossibleIn u text × (IsCertainIn u text → ⊥)

-- the line with this number shows that the UID is there
abbrev pub IsShownIn : ℕ → ℕ → List ℕ → Type 0
IsShownIn u n text =
    (log : LogValue) × IsLogOf (lines_of_text text) log × ShowsCertain log.lines n u

-- the first log in which a UID is certain, and a line of it that shows it
pub record IsFirstTold (texts : List (List ℕ)) (x : UnlistedUid) : Type 0 where
  pub first : IsFirstLogWith (IsCertainIn x.uid) texts x.log
  pub shown : IsLogWith (IsShownIn x.uid x.line) texts x.log

-- ---- against UIDs that are expected

-- a UID that may be somewhere and may be nowhere
abbrev pub IsUndecided : List (List ℕ) → ℕ → Type 0
IsUndecided texts u = IsPossibleUid texts u × (IsCertainUid texts u → ⊥)

-- an expected UID that is nowhere
abbrev pub IsAbsent : (ℕ → Bool) → List (List ℕ) → ℕ → Type 0
IsAbsent expected texts u = (expected u ≡ true) × (IsPossibleUid texts u → ⊥)

-- a UID that is somewhere and isn't expected
abbrev pub IsUnlisted : (ℕ → Bool) → List (List ℕ) → ℕ → Type 0
IsUnlisted expected texts u = IsCertainUid texts u × (expected u ≡ false)

-- a mask of at most 56 bits all of whose UIDs may be somewhere, may be nowhere, and aren't expected
abbrev pub IsUnsettledAgainst : (ℕ → Bool) → List (List ℕ) → BitMask → Type 0
IsUnsettledAgainst expected texts m =
    (m.len ≤ UID_BITS) × (m.value < 2 ^ m.len)
    × ((u : ℕ) → IsUid u → lies_in m u ≡ true
    → IsUndecided texts u × (expected u ≡ false))

-- an expected UID that may be somewhere and may be nowhere
abbrev pub IsDoubtful : (ℕ → Bool) → List (List ℕ) → ℕ → Type 0
IsDoubtful expected texts u = (expected u ≡ true) × IsUndecided texts u

-- the first open masks of the UIDs that may be in the field of a log and are certain in none, and
-- whether there are more
pub record AreOpenMasksOfLog (texts : List (List ℕ)) (text : List ℕ) (o : OpenMasks) : Type 0 where
  pub set : ℕ → Bool
  pub uids : (u : ℕ) → IsUid u → (set u ≡ true)
      ↔ IsPossibleIn u text × (IsCertainUid texts u → ⊥)
  pub first : AreFirst MAX_OPEN_MASKS (IsOpenMask set) o.masks.items
  pub more : (o.more ≡ true)
      ↔ ((m : BitMask) × IsOpenMask set m × (Contains o.masks.items m → ⊥))

-- the first log that isn't possible, and how the logs differ from the UIDs that are expected, of
-- which only those that are looked for can be absent
pub record AreFindingsAgainst (looked_for expected : ℕ → Bool) (texts : List (List ℕ))
    (f : Findings) : Type 0 where
  pub not_possible : MatchOption f.not_possible (All HasPossibleLog texts)
      (IsFirstLogWith (λ text. HasPossibleLog text → ⊥) texts)
  pub absent : IsListOf (IsAbsent looked_for texts) (map (λ x. x.uid) f.absent.items)
  pub unlisted : IsListOf (IsUnlisted expected texts) (map (λ x. x.uid) f.unlisted.items)
  pub unlisted_told : All (IsFirstTold texts) f.unlisted.items
  pub unsettled : MatchOption f.unsettled (NoSuch (IsUnsettledAgainst expected texts))
      (IsFirstMask (IsUnsettledAgainst expected texts))
  pub doubtful : IsListOf (IsDoubtful expected texts) (map (λ x. x.uid) f.doubtful.items)

-- what an item has as its UID is one
abbrev pub HaveUids : CollectionValue → Type 0
HaveUids c = (u : ℕ) → is_of_item c u ≡ true → IsUid u

-- ---- against a list

-- all of these numbers are UIDs
abbrev pub AreUids : List ℕ → Type 0
AreUids us = (u : ℕ) → has us u ≡ true → IsUid u

-- nothing is found of places, nor of what is away
pub record AreOfNoPlace (f : Findings) : Type 0 where
  pub misplaced : f.misplaced.items ≡ []
  pub returned : f.returned.items ≡ []
  pub not_counted : f.not_counted.items ≡ []
  pub without_log : f.without_log.items ≡ []
  pub left_over : f.left_over.items ≡ []

-- each log is possible, and everything that is expected is somewhere, and nothing else: in each
-- family that may have been there, exactly the expected UIDs
pub record IsWhole (expected : List ℕ) (texts : List (List ℕ)) : Type 0 where
  pub possible : All HasPossibleLog texts
  pub exact : (family : List (List ℕ)) → FitsTexts family texts
      → (u : ℕ) → (is_somewhere family u ≡ true) ↔ (has expected u ≡ true)

-- ---- findings that agree

-- they have the same UIDs and masks as the findings of a report
pub record AgreeWithReport (f : Findings) (g : LogFindings) : Type 0 where
  pub absent : map (λ x. x.uid) f.absent.items ≡ uids_of g.absent.items
  pub unlisted : map (λ x. x.uid) f.unlisted.items ≡ uids_of g.unlisted.items
  pub unsettled : f.unsettled ≡ option_map (λ x. x.mask) g.unsettled
  pub doubtful : map (λ x. x.uid) f.doubtful.items ≡ g.doubtful.items

-- they differ at most in the positions of items and logs, and in the lines that they name
pub record Agree (f g : Findings) : Type 0 where
  pub not_possible : is_some f.not_possible ≡ is_some g.not_possible
  pub absent : map (λ x. x.uid) f.absent.items ≡ map (λ x. x.uid) g.absent.items
  pub unlisted : map (λ x. x.uid) f.unlisted.items ≡ map (λ x. x.uid) g.unlisted.items
  pub unsettled : f.unsettled ≡ g.unsettled
  pub doubtful : map (λ x. x.uid) f.doubtful.items ≡ map (λ x. x.uid) g.doubtful.items
  pub misplaced : map (λ x. x.uid) f.misplaced.items ≡ map (λ x. x.uid) g.misplaced.items
  pub returned : map (λ x. x.uid) f.returned.items ≡ map (λ x. x.uid) g.returned.items
  pub not_counted : map (λ x. x.uid) f.not_counted.items ≡ map (λ x. x.uid) g.not_counted.items
  pub without_log : map (λ p. p.now) f.without_log.items ≡ map (λ p. p.now) g.without_log.items
  pub count : f.count ≡ g.count
