-- Where tags collided, by the middles of masks.
use Rattle.std.specs.Prelude.{◌≡◌, ℕ, ◌+◌, ◌-◌, ◌*◌, ◌^◌, ◌≤◌, ◌&&◌, Bool, List, nat_lt}
use Rattle.std.specs.List.{list_any}
use Rattle.std.specs.List.Sorted.{IsNonDecreasing}
use Rattle.vic_frame.specs.LowBitsFirst.{mirror}
use Rattle.vic_frame.specs.Masks.{BitMask, IsMask}
use Rattle.vic_frame.specs.declared.uid.TheConstants.{UID_BITS}
use Rattle.vic_log.specs.declared.entry.Entry.{Entry}
use Rattle.vic_object.specs.Asking.{has_collided_within}

-- twice the middle of the keys of a mask of at most 56 bits; a longer one counts as one key
abbrev pub middle_of : BitMask → ℕ
middle_of m = 2 * mirror m.value + 2 ^ (UID_BITS - m.len)

-- the middle lies between the first key of a mask and the one behind its last
abbrev pub is_middle_in : BitMask → ℕ → Bool
is_middle_in m c =
    nat_lt (2 * mirror m.value) c && nat_lt c (2 * (mirror m.value + 2 ^ (UID_BITS - m.len)))

-- the middles of the masks in which tags collided, in order
pub record AreMiddles (es : List Entry) (middles : List ℕ) : Type 0 where
  pub order : IsNonDecreasing middles
  pub each : (m : BitMask) → IsMask m → m.len ≤ UID_BITS
      → list_any (is_middle_in m) middles ≡ has_collided_within es m
