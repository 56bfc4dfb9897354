-- The masks that are kept of some.
use Rattle.std.specs.Prelude.{◌↔◌, List}
use Rattle.std.specs.List.{AllPairs, Contains}
use Rattle.vic_frame.specs.Masks.{BitMask}
use Rattle.vic_tree.specs.OpenMasks.{ComesBefore}

-- of some masks those with the property, in rising order
pub record AreKeptOf (P : BitMask → Type 0) (ms kept : List BitMask) : Type 0 where
  pub rising : AllPairs ComesBefore kept
  pub members : (m : BitMask) → Contains kept m ↔ (Contains ms m × P m)
