-- How many masks there are, and how many UIDs they have.
use Rattle.std.specs.Prelude.{◌≡◌, ◌⊎◌, ◌↔◌, List, length, map, sum}
use Rattle.std.specs.List.{AllPairs, Contains}
use Rattle.vic_frame.specs.Masks.{BitMask}
use Rattle.vic_tree.specs.Counted.{size_of}
use Rattle.vic_tree.specs.OpenMasks.{ComesBefore}
use Rattle.vic_tree.specs.declared.counted.Tally.{Tally}

-- masks are so many, and have so many UIDs together
pub record IsTallyOf (ms : List BitMask) (t : Tally) : Type 0 where
  pub count : t.count ≡ length ms
  pub uids : t.uids ≡ sum (map size_of ms)

-- the masks `ns`, in order, are the masks `ms` and additional ones
pub record HasMore (IsMore : BitMask → Type 0) (ms ns : List BitMask) : Type 0 where
  pub rising : AllPairs ComesBefore ns
  pub members : (m : BitMask) → Contains ms m ⊎ IsMore m ↔ Contains ns m

-- a step of counting: if `old` is the tally of some masks, and the additional ones are others,
-- `new` is the tally of both
abbrev pub Tallies : (BitMask → Type 0) → Tally → Tally → Type 0
Tallies IsMore old new =
    (ms : List BitMask) → AllPairs ComesBefore ms → IsTallyOf ms old
    → ((m : BitMask) → IsMore m → Contains ms m → ⊥)
    → (ns : List BitMask) × HasMore IsMore ms ns × IsTallyOf ns new
