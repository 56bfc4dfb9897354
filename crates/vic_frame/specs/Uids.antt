-- UIDs, as numbers (ISO/IEC 15693-3, unique identifier).
use Rattle.std.specs.Prelude.{◌≡◌, ℕ, Bool, false, List, [], ◌∷◌, ◌+◌, ◌*◌, ◌^◌, ◌≤◌, ◌<◌, ◌&&◌, ⊤, nat_eq, nat_le, nat_lt}
use Rattle.std.specs.List.{list_any}
use Rattle.vic_frame.specs.declared.uid.TheConstants.{UID_BITS}

-- a number of 64 bits whose most significant byte is E0 (ISO/IEC 15693-3, unique identifier)
abbrev pub IsUid : ℕ → Type 0
IsUid u = (0xE0 * 2 ^ UID_BITS ≤ u) × (u < 0xE1 * 2 ^ UID_BITS)

-- whether a number is a UID
abbrev pub is_uid : ℕ → Bool
is_uid u = nat_le (0xE0 * 2 ^ UID_BITS) u && nat_lt u (0xE1 * 2 ^ UID_BITS)

-- the UID with these 56 bits under its top byte
abbrev pub uid_from_low_bits : ℕ → ℕ
uid_from_low_bits bits = 0xE0 * 2 ^ UID_BITS + bits

-- whether the number is in the list
abbrev pub has : List ℕ → ℕ → Bool
has us u = list_any (nat_eq u) us

-- no number is in the list twice
abbrev pub AreDifferent : List ℕ → Type 0
AreDifferent [] = ⊤
AreDifferent (u ∷ us) = (has us u ≡ false) × AreDifferent us
