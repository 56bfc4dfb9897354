-- Stretches of keys, and the masks in them that have none of some keys.
use Rattle.std.specs.Prelude.{◌≡◌, ℕ, ◌≤◌, true, not, List}
use Rattle.vic_frame.specs.declared.uid.TheConstants.{UID_BITS}
use Rattle.vic_frame.specs.Uids.{has}
use Rattle.vic_frame.specs.Masks.{BitMask, IsMask}
use Rattle.vic_frame.specs.LowBitsFirst.{mirror}
use Rattle.vic_tree.specs.OpenSet.{IsAtMost}
use Rattle.vic_tree.specs.declared.spaced_keys.Stretch.{Stretch}
use Rattle.vic_tree.specs.inner.Ranges.{AllKeysPass}

-- a mask of at most 56 bits that has none of some keys, and begins at a key or after it
pub record IsFreeFrom (keys : List ℕ) (from : ℕ) (m : BitMask) : Type 0 where
  pub is_mask : IsMask m
  pub short : m.len ≤ UID_BITS
  pub begins : from ≤ mirror m.value
  pub free : AllKeysPass (λ k. not (has keys k)) m

-- keys up to one of some keys, and a mask that comes no later than any that has none of these, of
-- those that begin here
pub record IsStretch (keys : List ℕ) (s : Stretch) : Type 0 where
  pub ends : has keys s.range.1 ≡ true
  pub least : (m : BitMask) → IsFreeFrom keys s.range.0 m → mirror m.value ≤ s.range.1
      → IsAtMost s.widest m
