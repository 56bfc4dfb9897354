-- How a list differs from a log (profile): what is undecided, and the differences by a set and the
-- certain UIDs.
use Rattle.std.specs.Prelude.{◌≡◌, ℕ, ◌^◌, ◌<◌, ◌≤◌, Bool, true, false, not, ◌&&◌, ◌||◌, List, MatchOption}
use Rattle.vic_frame.specs.declared.uid.TheConstants.{UID_BITS}
use Rattle.vic_frame.specs.Uids.{IsUid, has}
use Rattle.vic_frame.specs.Masks.{BitMask, lies_in}
use Rattle.vic_tree.specs.OpenSet.{IsWidest, SameUids}
use Rattle.vic_log.specs.declared.entry.Entry.{Entry}
use Rattle.vic_log.specs.Order.{listed}
use Rattle.vic_verdict.specs.Possible.{IsPossibleUid, IsCertainUid}
use Rattle.vic_verdict.specs.Rising.{IsFailing, IsListOf}
use Rattle.vic_verdict.specs.declared.differences.Differences.{Differences}

-- ---- for reports, in which a UID has one finding at most (`AreFindings` of `vic_report`)

-- a UID that may be there and may be missing: possible, and not certain
abbrev pub IsUndecided : List Entry → ℕ → Type 0
IsUndecided es u = IsPossibleUid es u × (IsCertainUid es u → ⊥)

-- a mask of at most 56 bits all of whose UIDs may be there, may be missing, and aren't listed
abbrev pub IsLeftOpen : List Entry → BitMask → Type 0
IsLeftOpen es m =
    (m.len ≤ UID_BITS) × (m.value < 2 ^ m.len)
    × ((u : ℕ) → IsUid u → lies_in m u ≡ true
    → IsUndecided es u × (has (listed es) u ≡ false))

-- a listed UID that may be there and may be missing
abbrev pub MayBeMissing : List Entry → ℕ → Type 0
MayBeMissing es u = (has (listed es) u ≡ true) × IsUndecided es u

-- ---- the differences by a set and the certain UIDs

-- the set without the members of two lists
abbrev pub left_by : (ℕ → Bool) → List ℕ → List ℕ → ℕ → Bool
left_by set certain us u = set u && not (has certain u || has us u)

-- how the list `us` differs from what may be there (in the set, or certain) and from what must be
-- (certain)
pub record AreDifferences (set : ℕ → Bool) (certain us : List ℕ) (d : Differences) : Type 0 where
  pub absent : IsListOf (λ u. IsFailing us set u × (has certain u ≡ false)) d.absent
  pub unlisted : IsListOf (IsFailing certain (has us)) d.unlisted
  pub unsettled : MatchOption d.unsettled (SameUids (left_by set certain us) (λ _. false))
      (IsWidest (left_by set certain us))
  pub doubtful : IsListOf (λ u. (has us u ≡ true) × (set u ≡ true) × (has certain u ≡ false))
      d.doubtful
