-- Masks on the low bits of UIDs.
use Rattle.std.specs.Prelude.{◌≡◌, ℕ, ◌+◌, ◌*◌, ◌^◌, ◌%◌, ◌==◌, ◌<◌, ◌≤◌, Bool}
use Rattle.vic_frame.specs.Uids.{uid_from_low_bits}
use Rattle.vic_frame.specs.declared.uid.TheConstants.{UID_BITS}
use Rattle.vic_frame.specs.declared.mask.TheConstants.{MAX_MASK_LEN}

-- how many low bits are fixed, and their value (ISO/IEC 15693-3, Inventory request: mask length and
-- mask value)
pub record BitMask : Type 0 where
  pub len : ℕ
  pub value : ℕ

-- at most `MAX_MASK_LEN` bits are fixed (profile), and the value has no others
abbrev pub IsMask : BitMask → Type 0
IsMask m = (m.len ≤ MAX_MASK_LEN) × (m.value < 2 ^ m.len)

-- a UID lies in the mask if its low bits are the mask's value (ISO/IEC 15693-3, inventory sequence)
abbrev pub LiesIn : BitMask → ℕ → Type 0
LiesIn m u = u % 2 ^ m.len ≡ m.value

-- whether a UID lies in a mask
abbrev pub lies_in : BitMask → ℕ → Bool
lies_in m u = u % 2 ^ m.len == m.value

-- the mask of slot k of sixteen: the number of the slot is above the value (ISO/IEC 15693-3,
-- inventory sequence)
abbrev pub slot_of_sixteen : BitMask → ℕ → BitMask
slot_of_sixteen m k = record { len = m.len + 4; value = m.value + k * 2 ^ m.len }

-- the mask of a UID's 56 low bits, which holds no other UID: all of them share the top byte
abbrev pub own_mask : ℕ → BitMask
own_mask u = record { len = UID_BITS; value = u % 2 ^ UID_BITS }

-- the least UID in a mask of at most 56 bits: every bit that the mask leaves open is 0
abbrev pub least_uid_in : BitMask → ℕ
least_uid_in m = uid_from_low_bits m.value
