-- Which numbers a text has: what is read is written again, and compared, so that each has one form.
use Rattle.std.specs.Prelude.{ℕ, ◌-◌, ◌^◌, ◌==◌, ◌&&◌, Option, Some, None, List, ◌++◌, Result, Ok, Err, length, replicate, bytes_eq, nat_lt, codes, decimal, if◌then◌else◌}
use Rattle.std.specs.Int.{from_be_bytes, w64}
use Rattle.std.specs.Str.Parse.{digits_value}
use Rattle.hex.specs.Hex.{decode_sized}
use Rattle.hex.specs.declared.error.FromHexError.{FromHexError}
use Rattle.vic_frame.specs.Requests.{byte_count}
use Rattle.vic_text.specs.Digits.{hex_bytes}

-- the number below 2^64 that digits spell in decimal
abbrev pub number_in : List ℕ → Option ℕ
number_in w =
    let n = digits_value 10 w in
    if nat_lt n (2 ^ 64) && bytes_eq (decimal n) w then Some n else None

-- the number with these last bytes, at most eight, most significant first
abbrev pub number_ending : List ℕ → ℕ
number_ending bytes = from_be_bytes w64 (replicate (8 - length bytes) 0 ++ bytes)

-- the number that decoded bytes spell, if the digits are upper-case ones
abbrev pub hex_decoded : ℕ → List ℕ → Result (List ℕ) FromHexError → Option ℕ
hex_decoded count w (Ok bytes) =
    let n = number_ending bytes in if bytes_eq (hex_bytes count n) w then Some n else None
hex_decoded count w (Err e) = None

-- the number that digits spell as `count` bytes in hex
abbrev pub hex_number_in : ℕ → List ℕ → Option ℕ
hex_number_in count w = hex_decoded count w (decode_sized w count)

-- the value of a mask of `len` bits, `-` if it has none
abbrev pub value_in : ℕ → List ℕ → Option ℕ
value_in len w =
    if len == 0 then (if bytes_eq w (codes "-") then Some 0 else None)
    else hex_number_in (byte_count len) w
