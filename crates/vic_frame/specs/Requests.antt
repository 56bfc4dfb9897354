-- How a request is spelled (ISO/IEC 15693-3, request format; Inventory request; Stay Quiet).
use Rattle.std.specs.Prelude.{◌≡◌, ℕ, ◌+◌, ◌/◌, ◌^◌, ◌<◌, ◌≤◌, true, false, List, ◌∷◌, if◌then◌else◌}
use Rattle.vic_frame.specs.declared.request.Request.{Request}
use Rattle.vic_frame.specs.declared.request.Request.TheVariants.{Inventory, StayQuiet}
use Rattle.vic_frame.specs.declared.mask.TheConstants.{MAX_MASK_LEN_OF_SIXTEEN}
use Rattle.vic_frame.specs.Masks.{IsMask}
use Rattle.vic_frame.specs.Bytes.{bytes_of}
use Rattle.vic_frame.specs.Crc.{with_crc}

-- two bits of link, and with sixteen slots, a mask that leaves four bits for their numbers
-- (profile)
abbrev pub IsValid : Request → Type 0
IsValid (Inventory link true m) = (link ≤ 3) × (m.len ≤ MAX_MASK_LEN_OF_SIXTEEN)
IsValid (Inventory link false m) = link ≤ 3
IsValid (StayQuiet link uid) = link ≤ 3

-- what a request's type says about its numbers: a mask, or 64 bits
abbrev pub IsInRange : Request → Type 0
IsInRange (Inventory link sixteen m) = IsMask m
IsInRange (StayQuiet link uid) = uid < 2 ^ 64

-- the least number of bytes that hold that many bits (ISO/IEC 15693-3, Inventory request: mask
-- value)
abbrev pub byte_count : ℕ → ℕ
byte_count bits = (bits + 7) / 8

-- flags, command, and the command's own fields: 24 or 04 and 01 for Inventory, 20 and 02 for Stay
-- Quiet
abbrev pub request_body : Request → List ℕ
request_body (Inventory link sixteen m) =
    ((if sixteen then 0x04 else 0x24) + link) ∷ 0x01 ∷ m.len
    ∷ bytes_of (byte_count m.len) m.value
request_body (StayQuiet link uid) = (0x20 + link) ∷ 0x02 ∷ bytes_of 8 uid

-- and the CRC after them: the one spelling of the request
abbrev pub request_spelling : Request → List ℕ
request_spelling q = with_crc (request_body q)

-- the bytes spell the request: it is valid, and they are its spelling
abbrev pub SpellsRequest : List ℕ → Request → Type 0
SpellsRequest f q = IsInRange q × IsValid q × (f ≡ request_spelling q)
