-- The first open masks of a set, and how many it has.
use Rattle.std.specs.Prelude.{◌≡◌, ℕ, ◌-◌, ◌^◌, List, length, map, sum, take}
use Rattle.vic_frame.specs.declared.uid.TheConstants.{UID_BITS}
use Rattle.vic_frame.specs.Masks.{BitMask}
use Rattle.vic_tree.specs.OpenMasks.{AreAll}
use Rattle.vic_tree.specs.declared.counted.CountedMasks.{CountedMasks}

-- how many UIDs a mask of at most 56 bits has
abbrev pub size_of : BitMask → ℕ
size_of m = 2 ^ (UID_BITS - m.len)

-- the first of all wanted masks, how many these are, and how many UIDs they have, if each UID lies
-- in one at most
pub record IsCounted (most : ℕ) (IsWanted : BitMask → Type 0) (c : CountedMasks) : Type 0 where
  pub all : List BitMask
  pub are_all : AreAll IsWanted all
  pub first : c.masks.items ≡ take most all
  pub count : c.count ≡ length all
  pub uids : c.uids ≡ sum (map size_of all)
