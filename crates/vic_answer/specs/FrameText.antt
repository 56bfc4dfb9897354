-- What `frame` writes for a word: the word's two readings, or why it isn't a frame.
use Rattle.std.specs.Prelude.{ℕ, ◌||◌, List, [], ◌∷◌, ◌++◌, length, nat_lt, is_ok, codes, decimal, Result, Ok, Err, if◌then◌else◌}
use Rattle.hex.specs.Hex.{decode_of}
use Rattle.hex.specs.declared.error.FromHexError.{FromHexError}
use Rattle.vic_frame.specs.declared.fault.FrameFault.{FrameFault}
use Rattle.vic_frame.specs.declared.request.Request.{Request}
use Rattle.vic_frame.specs.declared.request.Request.TheVariants.{Inventory, StayQuiet}
use Rattle.vic_frame.specs.Slots.{slot_count}
use Rattle.vic_frame.specs.Replies.{Reply}
use Rattle.vic_frame.specs.Names.{fault_name}
use Rattle.vic_frame.specs.Reading.{request_reading, reply_reading}
use Rattle.vic_log.specs.declared.entry.TheConstants.{MAX_LINE_LEN}
use Rattle.vic_text.specs.Digits.{hex_bytes, uid_text, value_text}
use Rattle.vic_answer.specs.Refusals.{refused_word}
use Rattle.vic_answer.specs.declared.status.Status.{Status}
use Rattle.vic_answer.specs.declared.status.Status.TheVariants.{Whole, Refused}

-- the words of a request
abbrev pub request_words : Request → List (List ℕ)
request_words (Inventory link sixteen m) =
    codes "request" ∷ codes "inventory" ∷ codes "link" ∷ decimal link
    ∷ codes "slots" ∷ decimal (slot_count (Inventory link sixteen m))
    ∷ codes "mask" ∷ decimal m.len ∷ value_text m ∷ []
request_words (StayQuiet link uid) =
    codes "request" ∷ codes "stay-quiet" ∷ codes "link" ∷ decimal link
    ∷ codes "uid" ∷ uid_text uid ∷ []

-- the words of a reply
abbrev pub reply_words : Reply → List (List ℕ)
reply_words r =
    codes "response" ∷ codes "flags" ∷ hex_bytes 1 r.flags ∷ codes "dsfid" ∷ hex_bytes 1 r.dsfid
    ∷ codes "uid" ∷ uid_text r.uid ∷ []

-- words on a line, separated by spaces
abbrev pub line_of : List (List ℕ) → List ℕ
line_of [] = codes "\n"
line_of (w ∷ []) = w ++ codes "\n"
line_of (w ∷ v ∷ words) = w ++ codes " " ++ line_of (v ∷ words)

-- the line of a reading as a request
abbrev pub request_line : Result Request FrameFault → List ℕ
request_line (Ok q) = line_of (request_words q)
request_line (Err fault) = codes "request refused " ++ fault_name fault ++ codes "\n"

-- the line of a reading as a reply
abbrev pub response_line : Result Reply FrameFault → List ℕ
response_line (Ok r) = line_of (reply_words r)
response_line (Err fault) = codes "response refused " ++ fault_name fault ++ codes "\n"

-- the lines of the bytes that a word's digits spell
abbrev pub bytes_text : Result (List ℕ) FromHexError → List ℕ
bytes_text (Ok bytes) =
    request_line (request_reading bytes) ++ response_line (reply_reading bytes)
bytes_text (Err e) = refused_word (codes "Hex")

-- the text for a word
abbrev pub frame_text : List ℕ → List ℕ
frame_text word =
    if nat_lt MAX_LINE_LEN (length word) then refused_word (codes "LineTooLong")
    else bytes_text (decode_of word)

-- a word is refused if its bytes have no reading
abbrev pub bytes_status : Result (List ℕ) FromHexError → Status
bytes_status (Ok bytes) =
    if is_ok (request_reading bytes) || is_ok (reply_reading bytes) then Whole else Refused
bytes_status (Err e) = Refused

abbrev pub frame_status : List ℕ → Status
frame_status word =
    if nat_lt MAX_LINE_LEN (length word) then Refused else bytes_status (decode_of word)
