-- The names of an answer's kinds and of faults, by their numbers.
use Rattle.std.specs.Prelude.{ℕ, ◌-◌, ◌==◌, List, [], ◌++◌, length, replicate, codes, if◌then◌else◌}
use Rattle.vicinity_c.specs.declared.names.TheConstants.{NAME_ROOM}
use Rattle.vicinity_c.specs.declared.names.VicinityName.{VicinityName}

-- a name with zeros after it
abbrev pub named : List ℕ → VicinityName
named name = record { len = length name; text = name ++ replicate (NAME_ROOM - length name) 0 }

-- the word that the line of an answer begins with; none if there is no answer
abbrev pub kind_name : ℕ → List ℕ
kind_name kind =
    if kind == 1 then codes "complete"
    else if kind == 2 then codes "absent"
    else if kind == 3 then codes "unlisted"
    else if kind == 4 then codes "unsettled"
    else if kind == 5 then codes "doubtful"
    else if kind == 6 then codes "impossible"
    else if kind == 7 then codes "refused"
    else []

-- the name of a line's fault
abbrev pub line_fault_name : ℕ → List ℕ
line_fault_name fault =
    if fault == 1 then codes "TooManyLines"
    else if fault == 2 then codes "LineTooLong"
    else if fault == 3 then codes "Header"
    else if fault == 4 then codes "UnknownEntry"
    else if fault == 5 then codes "Hex"
    else if fault == 6 then codes "ListedLength"
    else if fault == 7 then codes "NotVicinity"
    else if fault == 8 then codes "SlotOutsideRound"
    else if fault == 9 then codes "EntryAfterList"
    else if fault == 10 then codes "DuplicateListed"
    else []

-- the name of a frame's fault
abbrev pub frame_fault_name : ℕ → List ℕ
frame_fault_name fault =
    if fault == 101 then codes "Short"
    else if fault == 102 then codes "Crc"
    else if fault == 103 then codes "Extension"
    else if fault == 104 then codes "Reserved"
    else if fault == 105 then codes "OptionFlag"
    else if fault == 106 then codes "OtherCommand"
    else if fault == 107 then codes "InventoryFlag"
    else if fault == 108 then codes "Afi"
    else if fault == 109 then codes "Length"
    else if fault == 110 then codes "MaskTooLong"
    else if fault == 111 then codes "MaskPadding"
    else if fault == 112 then codes "SelectFlag"
    else if fault == 113 then codes "NotAddressed"
    else if fault == 114 then codes "ErrorFlag"
    else if fault == 115 then codes "NotVicinity"
    else []

-- the name of a refusal of numbers, for which no frame, mask or line is written
abbrev pub refusal_name : ℕ → List ℕ
refusal_name fault =
    if fault == 201 then codes "WrongLink"
    else if fault == 202 then codes "WrongSlots"
    else if fault == 203 then codes "WrongMask"
    else if fault == 204 then codes "WrongSlot"
    else if fault == 205 then codes "WrongReply"
    else if fault == 206 then codes "TooLong"
    else if fault == 207 then codes "WrongLetter"
    else []

-- the name of a fault; no number has two of these names
abbrev pub fault_name : ℕ → List ℕ
fault_name fault = line_fault_name fault ++ frame_fault_name fault ++ refusal_name fault
