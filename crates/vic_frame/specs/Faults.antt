-- What is wrong with a frame: the first fault in a list of tests (profile: their order and names).
use Rattle.std.specs.Prelude.{ℕ, ◌+◌, ◌-◌, ◌/◌, ◌^◌, ◌==◌, ◌&&◌, not, Bool, Option, Some, None, List, [], ◌∷◌, ◌++◌, length, slice_index, slice_range, nat_lt, if◌then◌else◌}
use Rattle.vic_frame.specs.declared.fault.FrameFault.{FrameFault}
use Rattle.vic_frame.specs.declared.fault.FrameFault.TheVariants.{Short, Crc, Extension, Reserved, OptionFlag, OtherCommand, InventoryFlag, Afi, Length, MaskTooLong, MaskPadding, SelectFlag, NotAddressed, ErrorFlag, NotVicinity}
use Rattle.vic_frame.specs.declared.uid.TheConstants.{UID_BITS}
use Rattle.vic_frame.specs.declared.mask.TheConstants.{MAX_MASK_LEN, MAX_MASK_LEN_OF_SIXTEEN}
use Rattle.vic_frame.specs.Bytes.{number_of, bit}
use Rattle.vic_frame.specs.Crc.{crc_right}
use Rattle.vic_frame.specs.Requests.{byte_count}

-- the first fault whose test is true
abbrev pub first_fault : List (FrameFault × Bool) → Option FrameFault
first_fault [] = None
first_fault (e ∷ es) = if e.1 then Some e.0 else first_fault es

-- the flags of a frame: its first byte (ISO/IEC 15693-3, request flags and response flags)
abbrev pub flags : List ℕ → ℕ
flags f = slice_index f 0

-- the command of a request: its second byte
abbrev pub command : List ℕ → ℕ
command f = slice_index f 1

-- the mask length of an Inventory request
abbrev pub mask_len : List ℕ → ℕ
mask_len f = slice_index f 2

-- the mask value of an Inventory request: what is between the mask length and the CRC
abbrev pub mask_bytes : List ℕ → List ℕ
mask_bytes f = slice_range f 3 (length f - 2)

-- the UID of a Stay Quiet request or of a reply
abbrev pub uid_bytes : List ℕ → List ℕ
uid_bytes f = slice_range f 2 10

-- the longest mask that the number of slots allows: bit 6 is Nb_slots_flag, 1 for one slot
-- (profile)
abbrev pub longest_mask : List ℕ → ℕ
longest_mask f = if bit 6 (flags f) then MAX_MASK_LEN else MAX_MASK_LEN_OF_SIXTEEN

-- the faults that a request with any command can have, in order
abbrev pub head_faults : List ℕ → List (FrameFault × Bool)
head_faults f =
    (Short, nat_lt (length f) 4)
    ∷ (Crc, not (crc_right f))
    ∷ (Extension, bit 4 (flags f))
    ∷ (Reserved, bit 8 (flags f))
    ∷ (OptionFlag, bit 7 (flags f))
    ∷ (OtherCommand, not (command f == 1) && not (command f == 2))
    ∷ (InventoryFlag, if command f == 1 then not (bit 3 (flags f)) else bit 3 (flags f))
    ∷ []

-- those of command 01, Inventory
abbrev pub inventory_faults : List ℕ → List (FrameFault × Bool)
inventory_faults f =
    (Afi, bit 5 (flags f))
    ∷ (Length, length f == 4)
    ∷ (MaskTooLong, nat_lt (longest_mask f) (mask_len f))
    ∷ (Length, not (length f == byte_count (mask_len f) + 5))
    ∷ (MaskPadding, not (nat_lt (number_of (mask_bytes f)) (2 ^ mask_len f)))
    ∷ []

-- those of command 02, Stay Quiet
abbrev pub stay_quiet_faults : List ℕ → List (FrameFault × Bool)
stay_quiet_faults f =
    (SelectFlag, bit 5 (flags f))
    ∷ (NotAddressed, not (bit 6 (flags f)))
    ∷ (Length, not (length f == 12))
    ∷ []

-- all faults of a request, in order
abbrev pub request_faults : List ℕ → List (FrameFault × Bool)
request_faults f =
    head_faults f ++ (if command f == 1 then inventory_faults f else stay_quiet_faults f)

-- all faults of a reply, in order
abbrev pub reply_faults : List ℕ → List (FrameFault × Bool)
reply_faults f =
    (Length, not (length f == 12))
    ∷ (Crc, not (crc_right f))
    ∷ (ErrorFlag, bit 1 (flags f))
    ∷ (NotVicinity, not (number_of (uid_bytes f) / 2 ^ UID_BITS == 0xE0))
    ∷ []
