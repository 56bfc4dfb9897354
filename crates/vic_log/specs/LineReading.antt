-- What one line says.
use Rattle.std.specs.Prelude.{ℕ, ◌==◌, Bool, ◌||◌, nat_lt, if◌then◌else◌, Option, Some, None, Result, Ok, Err, List, length, drop, slice_index}
use Rattle.std.specs.Str.{byte}
use Rattle.std.specs.Int.{from_be_bytes, w64}
use Rattle.hex.specs.Hex.{decode_of}
use Rattle.hex.specs.declared.error.FromHexError.{FromHexError}
use Rattle.vic_frame.specs.Uids.{is_uid}
use Rattle.vic_frame.specs.Replies.{Reply}
use Rattle.vic_frame.specs.Reading.{request_reading, reply_reading}
use Rattle.vic_frame.specs.declared.request.Request.{Request}
use Rattle.vic_frame.specs.declared.fault.FrameFault.{FrameFault}
use Rattle.vic_log.specs.declared.entry.TheConstants.{MAX_LINE_LEN}
use Rattle.vic_log.specs.declared.entry.Entry.{Entry}
use Rattle.vic_log.specs.declared.entry.Entry.TheVariants.{Sent, Silent, Collision, Heard, Listed, Garbled, FieldCycle, Captured, Unknown}
use Rattle.vic_log.specs.declared.entry.Version.{Version}
use Rattle.vic_log.specs.declared.entry.Version.TheVariants.{V1, V2, V3}
use Rattle.vic_log.specs.declared.fault.LineFault.{LineFault}
use Rattle.vic_log.specs.declared.fault.LineFault.TheVariants.{LineTooLong, UnknownEntry, Hex, ListedLength, Frame, NotVicinity}

-- an empty line and a line whose first byte is # are ignored
abbrev pub is_passed_over : List ℕ → Bool
is_passed_over line = length line == 0 || slice_index line 0 == byte "#"

-- the entries of a request's and of a reply's frame, or the frame's fault
abbrev pub sent : Result Request FrameFault → Result (Option Entry) LineFault
sent (Ok q) = Ok (Some (Sent q))
sent (Err f) = Err (Frame f)

abbrev pub heard : Result Reply FrameFault → Result (Option Entry) LineFault
heard (Ok r) = Ok (Some (Heard r))
heard (Err f) = Err (Frame f)

abbrev pub captured : Result Reply FrameFault → Result (Option Entry) LineFault
captured (Ok r) = Ok (Some (Captured r))
captured (Err f) = Err (Frame f)

-- what a line that claims a number says: that UID is listed, or the number isn't a UID
abbrev pub claimed : ℕ → Result (Option Entry) LineFault
claimed number = if is_uid number then Ok (Some (Listed number)) else Err NotVicinity

-- eight bytes, most significant first, that are a UID
abbrev pub listed_uid : List ℕ → Result (Option Entry) LineFault
listed_uid bytes =
    if length bytes == 8 then claimed (from_be_bytes w64 bytes) else Err ListedLength

-- what decoded bytes say, by a function of these, or that they aren't hex digits
abbrev pub with_bytes : (List ℕ → Result (Option Entry) LineFault)
    → Result (List ℕ) FromHexError → Result (Option Entry) LineFault
with_bytes f (Ok bytes) = f bytes
with_bytes f (Err e) = Err Hex

-- the letters that version 2 adds: D and F
abbrev pub second_letter : ℕ → Result (Option Entry) LineFault
second_letter letter =
    if letter == byte "D" then Ok (Some Garbled)
    else if letter == byte "F" then Ok (Some FieldCycle)
    else Err UnknownEntry

-- the letters that a version adds; version 3 has N besides
abbrev pub added_letter : Version → ℕ → Result (Option Entry) LineFault
added_letter V1 letter = Err UnknownEntry
added_letter V2 letter = second_letter letter
added_letter V3 letter =
    if letter == byte "N" then Ok (Some Unknown) else second_letter letter

-- only a letter: S and C, and those that the version adds
abbrev pub one_letter : Version → ℕ → Result (Option Entry) LineFault
one_letter version letter =
    if letter == byte "S" then Ok (Some Silent)
    else if letter == byte "C" then Ok (Some Collision)
    else added_letter version letter

-- the letter that version 3 adds with hex digits after a space: H
abbrev pub added_digits : Version → ℕ → List ℕ → Result (Option Entry) LineFault
added_digits V1 letter digits = Err UnknownEntry
added_digits V2 letter digits = Err UnknownEntry
added_digits V3 letter digits =
    if letter == byte "H"
    then with_bytes (λ bytes. captured (reply_reading bytes)) (decode_of digits)
    else Err UnknownEntry

-- T, R and U with hex digits after a space, and what the version adds
abbrev pub with_digits : Version → ℕ → List ℕ → Result (Option Entry) LineFault
with_digits version letter digits =
    if letter == byte "T"
    then with_bytes (λ bytes. sent (request_reading bytes)) (decode_of digits)
    else if letter == byte "R"
    then with_bytes (λ bytes. heard (reply_reading bytes)) (decode_of digits)
    else if letter == byte "U" then with_bytes listed_uid (decode_of digits)
    else added_digits version letter digits

-- the entry that a line after the header spells in this version, None if it is ignored, or the
-- first of the faults that it has by itself
abbrev pub line_reading : Version → List ℕ → Result (Option Entry) LineFault
line_reading version line =
    if nat_lt MAX_LINE_LEN (length line) then Err LineTooLong
    else if is_passed_over line then Ok None
    else if length line == 1 then one_letter version (slice_index line 0)
    else if slice_index line 1 == byte " "
    then with_digits version (slice_index line 0) (drop 2 line)
    else Err UnknownEntry
