-- Lines of a log's text in a struct of C.
use Rattle.std.specs.Prelude.{ℕ, ◌+◌, ◌-◌, ◌*◌, ◌==◌, ◌||◌, List, [], ◌∷◌, ◌++◌, length, replicate, nat_le, codes, if◌then◌else◌}
use Rattle.std.specs.Int.{to_be_bytes, w64}
use Rattle.std.specs.Str.{byte}
use Rattle.hex.specs.Hex.{encode_upper}
use Rattle.vic_log.specs.declared.entry.TheConstants.{MAX_LINE_LEN}
use Rattle.vicinity_c.specs.declared.frames.TheConstants.{TOO_LONG}
use Rattle.vicinity_c.specs.declared.lines.TheConstants.{WRONG_LETTER, LINE_ROOM}
use Rattle.vicinity_c.specs.declared.lines.VicinityLine.{VicinityLine}

-- a line with zeros after it
abbrev pub lined : List ℕ → VicinityLine
lined text = record {
  fault = 0;
  len = length text;
  text = text ++ replicate (LINE_ROOM - length text) 0;
}

-- no line, and why
abbrev pub no_line : ℕ → VicinityLine
no_line fault = record { fault = fault; len = 0; text = replicate LINE_ROOM 0 }

-- a letter, a space, bytes in hex digits, LF
abbrev pub bytes_line : ℕ → List ℕ → List ℕ
bytes_line letter bytes = (letter ∷ byte " " ∷ []) ++ encode_upper bytes ++ codes "\n"

-- the line that begins with a letter: T, R and H have the bytes of a frame, U has a UID
abbrev pub line_of : (letter : ℕ) (bytes : List ℕ) (uid : ℕ) → VicinityLine
line_of letter bytes uid =
    if letter == byte "T" || letter == byte "R" || letter == byte "H"
    then (if nat_le (2 + 2 * length bytes) MAX_LINE_LEN then lined (bytes_line letter bytes)
    else no_line TOO_LONG)
    else if letter == byte "U" then lined (bytes_line letter (to_be_bytes w64 uid))
    else if letter == byte "S" || letter == byte "C" || letter == byte "D" || letter == byte "F"
    || letter == byte "N"
    then lined (letter ∷ codes "\n")
    else no_line WRONG_LETTER
