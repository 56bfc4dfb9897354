-- How the open masks of ranges of keys are found: run by run, a few blocks of each.
use Rattle.std.specs.Prelude.{◌≡◌, ℕ, ◌%◌, ◌<◌, ◌≤◌, ◌⊎◌, ◌↔◌, Bool, List, length}
use Rattle.std.specs.List.{AllPairs, Contains}
use Rattle.vic_frame.specs.declared.uid.TheConstants.{UID_BITS}
use Rattle.vic_frame.specs.Masks.{BitMask, IsMask}
use Rattle.vic_frame.specs.LowBitsFirst.{mirror, mirror_bits}
use Rattle.vic_tree.specs.declared.open_masks.TheConstants.{KEPT}
use Rattle.vic_tree.specs.OpenMasks.{AreFirst, ComesBefore, IsPast, parent}
use Rattle.vic_tree.specs.inner.Ranges.{AllKeysPass, HoldsMask, IsMaskIn}

-- the keys of the mask lie in the range, and those of its parent don't
pub record IsMaximalIn (first last : ℕ) (m : BitMask) : Type 0 where
  pub inside : IsMaskIn first last m
  pub maximal : (m.len ≡ 0) ⊎ ¬ (HoldsMask first last (parent m))

-- such a mask of `len` bits: the upper half of its parent if `odd` is 1; the lower one, or the mask
-- of no bits, if 0
pub record IsMaximalAt (first last len odd : ℕ) (m : BitMask) : Type 0 where
  pub maximal : IsMaximalIn first last m
  pub len_is : m.len ≡ len
  pub side : mirror_bits len m.value % 2 ≡ odd

-- a mask of at most 56 bits whose keys pass a test, and those of its parent don't
pub record IsOpenBlock (p : ℕ → Bool) (m : BitMask) : Type 0 where
  pub is_mask : IsMask m
  pub short : m.len ≤ UID_BITS
  pub passes : AllKeysPass p m
  pub maximal : (m.len ≡ 0) ⊎ ¬ (AllKeysPass p (parent m))

-- such a mask that begins below a key
abbrev pub IsOpenBelow : (ℕ → Bool) → ℕ → BitMask → Type 0
IsOpenBelow p bound m = IsOpenBlock p m × (mirror m.value < bound)

-- masks in order, and no more than are kept
abbrev pub AreKept : List BitMask → Type 0
AreKept ms = AllPairs ComesBefore ms × (length ms ≤ KEPT)

-- the first masks of a list and of additional ones; a mask that came after a full list still does
pub record Keeps (IsMore : BitMask → Type 0) (old new : List BitMask) : Type 0 where
  pub first : AreFirst KEPT (λ m. Contains old m ⊎ IsMore m) new
  pub past : (m : BitMask) → IsPast KEPT old m → IsPast KEPT new m

-- the masks of a list and additional ones
abbrev pub Adds : (BitMask → Type 0) → List BitMask → List BitMask → Type 0
Adds IsMore old new = (m : BitMask) → Contains old m ⊎ IsMore m ↔ Contains new m
