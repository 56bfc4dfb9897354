-- Masks of at most 56 bits hold a UID, and one of 56 bits holds just one.
use Rattle.vic_verdict.proofs.Words.{◌≡◌, ℕ, ◌<◌, ◌≤◌, ◌+◌, ◌*◌, ◌^◌, ◌%◌, true, arith, eqb-true, eq-eqb, BitMask, IsUid, lies_in, least_inside, least_is_uid}

-- the mask of the 56 low bits of a UID
abbrev pub mask_of : ℕ → BitMask
mask_of u = record { len = 56; value = u % 2 ^ 56 }

pub mask_of-alone : (u w : ℕ) → IsUid u → IsUid w → lies_in (mask_of u) w ≡ true → w ≡ u
mask_of-alone u w i j h = let e = eqb-true _ _ h in omega arith

pub mask_of-value : (u : ℕ) → (u % 2 ^ 56) < 2 ^ 56
mask_of-value u = omega arith

-- the least UID in a mask of at most 56 bits
abbrev pub uid_in : BitMask → ℕ
uid_in m = 0xE0 * 2 ^ 56 + m.value

pub IsUid-in : (m : BitMask) → m.len ≤ 56 → m.value < 2 ^ m.len → IsUid (uid_in m)
IsUid-in m h k = least_is_uid m (omega arith, k) h

pub lies_in-uid_in : (m : BitMask) → m.len ≤ 56 → m.value < 2 ^ m.len → lies_in m (uid_in m) ≡ true
lies_in-uid_in m h k = eq-eqb _ _ (least_inside m (omega arith, k) h)
