-- Where tags collided in a log.
use Rattle.std.specs.Prelude.{◌≡◌, Bool, List}
use Rattle.std.specs.BTreeSet.{BTreeSet, contains}
use Rattle.std.specs.Ordering.{nat_cmp, ordering_then}
use Rattle.std.specs.declared.cmp.Ordering.{Ordering}
use Rattle.vic_frame.specs.Masks.{BitMask}
use Rattle.vic_log.specs.declared.entry.Entry.{Entry}
use Rattle.vic_object.specs.Asking.{has_collided}
use Rattle.vic_object.specs.declared.asking.Collisions.{Collisions}
use Rattle.vic_object.specs.inner.Middles.{AreMiddles}

-- by length, then by value
abbrev pub mask_cmp : BitMask → BitMask → Ordering
mask_cmp m n = ordering_then (nat_cmp m.len n.len) (nat_cmp m.value n.value)

-- the set has the mask
abbrev pub has_mask : BTreeSet BitMask → BitMask → Bool
has_mask set m = contains mask_cmp set m

-- the masks of the slots in which tags collided, and their middles
pub record AreCollided (es : List Entry) (c : Collisions) : Type 0 where
  pub masks : (m : BitMask) → has_mask c.masks m ≡ has_collided es m
  pub middles : AreMiddles es c.middles.items
