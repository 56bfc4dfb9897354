-- The CRC of a frame (ISO/IEC 13239, 16-bit FCS), bit by bit in the order in which the bits are
-- sent.
use Rattle.std.specs.Prelude.{ℕ, ◌-◌, ◌/◌, ◌%◌, ◌==◌, ◌&&◌, Bool, List, [], ◌∷◌, ◌++◌, length, take, drop, nat_le, if◌then◌else◌}
use Rattle.std.specs.Int.Bits.{bit_xor}
use Rattle.vic_frame.specs.Bytes.{number_of, bytes_of, bits}

-- the register after one bit: it shifts down, and 8408 is x^16 + x^12 + x^5 + 1 with its bits
-- reversed
unfoldable pub step : ℕ → ℕ → ℕ
step r b = if bit_xor b (r % 2) == 1 then bit_xor (r / 2) 0x8408 else r / 2

-- the register after bits
unfoldable pub after_bits : ℕ → List ℕ → ℕ
after_bits r [] = r
after_bits r (b ∷ bs) = after_bits (step r b) bs

-- the register of bytes, which begins with all bits 1
abbrev pub register : List ℕ → ℕ
register bytes = after_bits 0xFFFF (bits bytes)

-- the CRC of bytes: the one's complement of their register
abbrev pub crc : List ℕ → ℕ
crc bytes = 0xFFFF - register bytes

-- bytes with their CRC after them, low byte first (ISO/IEC 15693-3, CRC)
abbrev pub with_crc : List ℕ → List ℕ
with_crc bytes = bytes ++ bytes_of 2 (crc bytes)

-- whether the last two bytes are the CRC of the others
abbrev pub crc_right : List ℕ → Bool
crc_right f =
    nat_le 2 (length f) && (number_of (drop (length f - 2) f) == crc (take (length f - 2) f))
