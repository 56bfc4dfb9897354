-- UIDs by their low bits, lowest first (profile). In that order the UIDs of a mask are consecutive.
use Rattle.std.specs.Prelude.{◌≡◌, ℕ, zero, suc, ◌+◌, ◌-◌, ◌*◌, ◌/◌, ◌^◌, ◌%◌, ◌<◌, ◌≤◌, Bool, ◌&&◌, nat_le}
use Rattle.vic_frame.specs.declared.uid.TheConstants.{UID_BITS}
use Rattle.vic_frame.specs.declared.request.Request.{Request}
use Rattle.vic_frame.specs.declared.request.Request.TheVariants.{Inventory, StayQuiet}
use Rattle.vic_frame.specs.Uids.{uid_from_low_bits}

-- the low k bits of n reversed: the lowest becomes the highest
unfoldable pub mirror_bits : ℕ → ℕ → ℕ
mirror_bits zero n = 0
mirror_bits (suc k) n = (n % 2) * 2 ^ k + mirror_bits k (n / 2)

-- a key: the number of a UID in the order
abbrev pub IsKey : ℕ → Type 0
IsKey k = k < 2 ^ UID_BITS

-- the key of a UID: the 56 bits that distinguish UIDs, reversed
abbrev pub mirror : ℕ → ℕ
mirror u = mirror_bits UID_BITS u

-- the key of the first UID in a request's mask that holds one; Stay Quiet has no mask
abbrev pub first_key_of : Request → ℕ
first_key_of (Inventory link sixteen m) = mirror m.value
first_key_of (StayQuiet link uid) = 0

-- the UID with a key
abbrev pub uid_of : ℕ → ℕ
uid_of k = uid_from_low_bits (mirror k)

-- the key is in the block, beginning at `first`, of a mask of that many bits
abbrev pub is_in_block : ℕ → ℕ → ℕ → Bool
is_in_block first len k = nat_le first k && nat_le k (first + (2 ^ (UID_BITS - len) - 1))

-- the keys from `first` on are the block of some mask of that many bits
pub record IsBlock (first len : ℕ) : Type 0 where
  pub short : len ≤ UID_BITS
  pub keys : IsKey (first + (2 ^ (UID_BITS - len) - 1))
  pub aligned : first % 2 ^ (UID_BITS - len) ≡ 0
