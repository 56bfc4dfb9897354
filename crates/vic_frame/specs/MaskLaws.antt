-- How two masks relate, and how many UIDs a mask holds.
use Rattle.std.specs.Prelude.{◌≡◌, ℕ, ◌+◌, ◌^◌, ◌⊎◌}
use Rattle.vic_frame.specs.Uids.{IsUid}
use Rattle.vic_frame.specs.Masks.{BitMask, LiesIn}

-- the first mask holds all that the second holds, or they hold nothing in common
abbrev pub NestedOrApart : BitMask → BitMask → Type 0
NestedOrApart m n =
    ((u : ℕ) → LiesIn n u → LiesIn m u) ⊎ ((u : ℕ) → LiesIn m u → LiesIn n u → ⊥)

-- the mask with one more bit, which is 0
abbrev pub lower_half : BitMask → BitMask
lower_half m = record { len = m.len + 1; value = m.value }

-- the mask with one more bit, which is 1
abbrev pub upper_half : BitMask → BitMask
upper_half m = record { len = m.len + 1; value = m.value + 2 ^ m.len }

-- a number lies in a mask if and only if it lies in one of its halves, and never in both
pub record IsParted (m : BitMask) (u : ℕ) : Type 0 where
  pub covers : LiesIn m u → LiesIn (lower_half m) u ⊎ LiesIn (upper_half m) u
  pub lower : LiesIn (lower_half m) u → LiesIn m u
  pub upper : LiesIn (upper_half m) u → LiesIn m u
  pub apart : LiesIn (lower_half m) u → LiesIn (upper_half m) u → ⊥

-- at most one UID lies in the mask
abbrev pub HoldsAtMostOne : BitMask → Type 0
HoldsAtMostOne m = (u v : ℕ) → IsUid u → IsUid v → LiesIn m u → LiesIn m v → u ≡ v
