-- The values of hex digits.
use Rattle.std.specs.Prelude.{◌≡◌, ℕ, ◌+◌, ◌*◌, ◌≤◌}
use Rattle.std.specs.Option.{unwrap_or}
use Rattle.hex.specs.Hex.{hex_digit_value}

-- the value of a hex digit, 255 where it is none
abbrev pub digit_or_255 : ℕ → ℕ
digit_or_255 c = unwrap_or (hex_digit_value c) 255

-- two hex digits spell a byte, the high one first
pub record SpellsByte (high low byte : ℕ) : Type 0 where
  pub is_high : digit_or_255 high ≤ 15
  pub is_low : digit_or_255 low ≤ 15
  pub byte_is : byte ≡ digit_or_255 high * 16 + digit_or_255 low
