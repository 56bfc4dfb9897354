-- What stands in a cell.
use Rattle.std.specs.Prelude.{ℕ, ◌==◌, Bool, ◌||◌, not, if◌then◌else◌, Option, Some, None, is_some, Result, Ok, Err, List, [], ◌∷◌, map}
use Rattle.std.specs.Char.{to_ascii_lowercase}
use Rattle.std.specs.Int.{from_be_bytes, w64}
use Rattle.std.specs.List.{filter, list_all, list_any, slice_split}
use Rattle.std.specs.Str.{byte, bytes_eq}
use Rattle.hex.specs.Hex.{decode_sized, is_hex_digit}
use Rattle.hex.specs.declared.error.FromHexError.{FromHexError}
use Rattle.vic_frame.specs.Uids.{is_uid}

abbrev pub tab : ℕ
tab = 9

-- a space or a tab
abbrev pub is_space : ℕ → Bool
is_space b = b == byte " " || b == tab

-- nothing but spaces and tabs
abbrev pub is_blank : List ℕ → Bool
is_blank cell = list_all is_space cell

-- without spaces and tabs at its start
abbrev pub trimmed_start : List ℕ → List ℕ
trimmed_start [] = []
trimmed_start (b ∷ cell) = if is_space b then trimmed_start cell else b ∷ cell

-- without spaces and tabs at its end
abbrev pub trimmed_end : List ℕ → List ℕ
trimmed_end [] = []
trimmed_end (b ∷ cell) = if is_blank (b ∷ cell) then [] else b ∷ trimmed_end cell

-- without spaces and tabs at its ends
abbrev pub trimmed : List ℕ → List ℕ
trimmed cell = trimmed_end (trimmed_start cell)

-- without those, and with ASCII letters in lower case
abbrev pub folded : List ℕ → List ℕ
folded cell = map to_ascii_lowercase (trimmed cell)

-- the cell is a word, which is written in lower case
abbrev pub is_word : List ℕ → List ℕ → Bool
is_word word cell = bytes_eq (folded cell) word

-- a byte that may stand among the digits of a UID
abbrev pub is_filler : ℕ → Bool
is_filler b = is_space b || b == byte ":" || b == byte "-"

abbrev pub is_no_filler : ℕ → Bool
is_no_filler b = not (is_filler b)

-- the UID with these bytes, most significant first
abbrev pub uid_with : Result (List ℕ) FromHexError → Option ℕ
uid_with (Ok bytes) =
    if is_uid (from_be_bytes w64 bytes) then Some (from_be_bytes w64 bytes) else None
uid_with (Err e) = None

-- the UID that 16 hex digits spell, if the bytes are such and their number is a UID
abbrev pub hex_uid : List ℕ → Option ℕ
hex_uid digits = uid_with (decode_sized digits 8)

-- the UID that a cell spells: 16 hex digits are left without spaces, tabs, colons and hyphens
abbrev pub spelled_uid : List ℕ → Option ℕ
spelled_uid cell = hex_uid (filter is_no_filler cell)

abbrev pub is_no_hex_digit : ℕ → Bool
is_no_hex_digit b = not (is_hex_digit b)

-- the longest rows of hex digits in a cell; between two of them is one byte that is none
abbrev pub hex_runs : List ℕ → List (List ℕ)
hex_runs cell = slice_split is_no_hex_digit cell

-- some 16 hex digits in a row, with none before or behind them, are a UID
abbrev pub has_uid : List ℕ → Bool
has_uid cell = list_any (λ run. is_some (hex_uid run)) (hex_runs cell)

-- the cell has a UID, or spells one
abbrev pub tells_uid : List ℕ → Bool
tells_uid cell = has_uid cell || is_some (spelled_uid cell)
