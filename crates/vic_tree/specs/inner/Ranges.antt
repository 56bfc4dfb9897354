-- The masks whose keys lie in a range, and runs of keys that pass a test.
use Rattle.std.specs.Prelude.{◌≡◌, ℕ, ◌+◌, ◌-◌, ◌*◌, ◌^◌, ◌<◌, ◌≤◌, ◌&&◌, Bool, true, false, not, List, Option, Some, None}
use Rattle.vic_frame.specs.declared.uid.TheConstants.{UID_BITS}
use Rattle.vic_frame.specs.Uids.{has}
use Rattle.vic_frame.specs.Masks.{BitMask, IsMask}
use Rattle.vic_frame.specs.LowBitsFirst.{mirror}
use Rattle.vic_tree.specs.OpenSet.{IsAtMost}
use Rattle.vic_tree.specs.Ranges.{in_ranges}

-- how many keys agree in their highest `len` bits
abbrev pub block_size : ℕ → ℕ
block_size len = 2 ^ (UID_BITS - len)

-- of the blocks that keys form by their highest `len` bits, block number n lies in the range
abbrev pub HoldsBlock : ℕ → ℕ → ℕ → ℕ → Type 0
HoldsBlock first last len n =
    (first ≤ n * block_size len) × ((n + 1) * block_size len ≤ last + 1)

-- the keys of a mask lie in the range
abbrev pub HoldsMask : ℕ → ℕ → BitMask → Type 0
HoldsMask first last m =
    (first ≤ mirror m.value) × (mirror m.value + block_size m.len ≤ last + 1)

-- the mask has at most 56 bits, and its keys lie in the range
abbrev pub IsMaskIn : ℕ → ℕ → BitMask → Type 0
IsMaskIn first last m = IsMask m × (m.len ≤ UID_BITS) × HoldsMask first last m

-- the mask comes no later than any whose keys lie in the range
abbrev pub ComesFirstIn : ℕ → ℕ → BitMask → Type 0
ComesFirstIn first last m =
    (n : BitMask) → IsMask n → n.len ≤ UID_BITS → HoldsMask first last n → IsAtMost m n

-- the keys of the mask pass a test
abbrev pub AllKeysPass : (ℕ → Bool) → BitMask → Type 0
AllKeysPass p m =
    (k : ℕ) → mirror m.value ≤ k → k < mirror m.value + block_size m.len → p k ≡ true

-- the least mask of at most 56 bits whose keys pass, of those that begin below a key
pub record IsWidestBelow (p : ℕ → Bool) (bound : ℕ) (m : BitMask) : Type 0 where
  pub is_mask : IsMask m
  pub short : m.len ≤ UID_BITS
  pub passes : AllKeysPass p m
  pub least : (n : BitMask) → IsMask n → n.len ≤ UID_BITS → AllKeysPass p n
      → mirror n.value < bound → IsAtMost m n

-- what was found below a key: the widest mask; or none, and no key below passes
abbrev pub IsFoundBelow : (ℕ → Bool) → ℕ → Option BitMask → Type 0
IsFoundBelow p bound (Some m) = IsWidestBelow p bound m
IsFoundBelow p bound None = (k : ℕ) → k < bound → p k ≡ false

-- the key is in one of the ranges, and not removed
abbrev pub is_left : List (ℕ × ℕ) → List ℕ → ℕ → Bool
is_left rs removed k = in_ranges rs k && not (has removed k)

-- from a key on, the keys that pass are those left of some ranges when some keys are removed
abbrev pub PassFrom : (ℕ → Bool) → ℕ × List (ℕ × ℕ) × List ℕ → Type 0
PassFrom p left = (k : ℕ) → left.0 ≤ k → p k ≡ is_left left.1 left.2 k

-- the first run of keys, from one on, that pass
pub record IsFirstRun (p : ℕ → Bool) (from first last : ℕ) : Type 0 where
  pub begins : from ≤ first
  pub before : (k : ℕ) → from ≤ k → k < first → p k ≡ false
  pub passes : (k : ℕ) → first ≤ k → k ≤ last → p k ≡ true
  pub ends : p (last + 1) ≡ false
