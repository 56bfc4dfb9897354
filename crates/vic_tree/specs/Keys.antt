-- The keys of a list of UIDs.
use Rattle.std.specs.Prelude.{◌≡◌, ℕ, true, List}
use Rattle.std.specs.List.Sorted.{IsNonDecreasing}
use Rattle.vic_frame.specs.Uids.{IsUid, has}
use Rattle.vic_tree.specs.OpenSet.{AreKeys, has_key}

-- the keys of the UIDs of a list, in order
pub record AreKeysOf (ks us : List ℕ) : Type 0 where
  pub order : IsNonDecreasing ks
  pub keys : AreKeys ks
  pub members : (u : ℕ) → IsUid u → has_key ks u ≡ has us u
  pub are_uids : (u : ℕ) → has us u ≡ true → IsUid u
