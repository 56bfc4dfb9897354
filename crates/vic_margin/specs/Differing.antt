-- Entries that differ in some slot lines.
use Rattle.std.specs.Prelude.{◌≡◌, ℕ, true, false, Some, List, length, slice_get}
use Rattle.vic_frame.specs.Uids.{has}
use Rattle.vic_log.specs.declared.entry.Entry.{Entry}
use Rattle.vic_log.specs.declared.entry.Entry.TheVariants.{Unknown}
use Rattle.vic_log.specs.Rounds.{is_slot}
use Rattle.vic_verdict.specs.Possible.{IsPossibleUid}

-- the entry at position i is a slot line
abbrev pub IsSlotAt : List Entry → ℕ → Type 0
IsSlotAt es i = (e : Entry) × (slice_get es i ≡ Some e) × (is_slot e ≡ true)

-- as many entries, the same at all positions but some, at which both have slot lines
pub record DifferOnlyAt (places : List ℕ) (es ds : List Entry) : Type 0 where
  pub as_many : length ds ≡ length es
  pub same : (i : ℕ) → has places i ≡ false → slice_get ds i ≡ slice_get es i
  pub slots : (i : ℕ) → has places i ≡ true → IsSlotAt es i
  pub other_slots : (i : ℕ) → has places i ≡ true → IsSlotAt ds i

-- the UID is possible if nothing is known of so many slots of the entries
pub record IsPossibleWithout (es : List Entry) (u n : ℕ) : Type 0 where
  pub places : List ℕ
  pub few : length places ≡ n
  pub entries : List Entry
  pub differ : DifferOnlyAt places es entries
  pub unknown : (i : ℕ) → has places i ≡ true → slice_get entries i ≡ Some Unknown
  pub possible : IsPossibleUid entries u
