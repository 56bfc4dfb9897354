-- The open masks of a set: the maximal masks that lie entirely in it.
use Rattle.std.specs.Prelude.{◌≡◌, ℕ, ◌-◌, ◌^◌, ◌%◌, ◌<◌, ◌≤◌, ◌⊎◌, Bool, List, length}
use Rattle.std.specs.List.{All, AllPairs, Contains}
use Rattle.vic_frame.specs.declared.uid.TheConstants.{UID_BITS}
use Rattle.vic_frame.specs.Masks.{BitMask, IsMask}
use Rattle.vic_tree.specs.OpenSet.{AllOpen}

-- the mask with one bit less that holds it
abbrev pub parent : BitMask → BitMask
parent m = record { len = m.len - 1; value = m.value % 2 ^ (m.len - 1) }

-- a mask of at most 56 bits all of whose UIDs are in the set, and whose parent isn't one
pub record IsOpenMask (set : ℕ → Bool) (m : BitMask) : Type 0 where
  pub is_mask : IsMask m
  pub short : m.len ≤ UID_BITS
  pub open_throughout : AllOpen set m
  pub maximal : (m.len ≡ 0) ⊎ ¬ (AllOpen set (parent m))

-- the first mask comes before the second by length, then by value
abbrev pub ComesBefore : BitMask → BitMask → Type 0
ComesBefore m n = (m.len ≤ n.len) × (m.len ≡ n.len → m.value < n.value)

-- the list is full, and all its masks come before this one
abbrev pub IsPast : ℕ → List BitMask → BitMask → Type 0
IsPast most ms m = (length ms ≡ most) × All (λ n. ComesBefore n m) ms

-- wanted masks, in order: all of them, or at least the first `most`
pub record AreFirst (most : ℕ) (IsWanted : BitMask → Type 0) (ms : List BitMask) : Type 0 where
  pub rising : AllPairs ComesBefore ms
  pub wanted : All IsWanted ms
  pub others : (m : BitMask) → IsWanted m → Contains ms m ⊎ IsPast most ms m

-- all the wanted masks, in order
pub record AreAll (IsWanted : BitMask → Type 0) (ms : List BitMask) : Type 0 where
  pub rising : AllPairs ComesBefore ms
  pub wanted : All IsWanted ms
  pub others : (m : BitMask) → IsWanted m → Contains ms m
