-- Frames in a struct of C.
use Rattle.std.specs.Prelude.{ℕ, ◌+◌, ◌-◌, ◌%◌, ◌==◌, ◌&&◌, List, ◌++◌, length, replicate, nat_le, nat_lt, if◌then◌else◌}
use Rattle.vic_frame.specs.declared.request.Request.TheVariants.{StayQuiet}
use Rattle.vic_frame.specs.Crc.{with_crc}
use Rattle.vic_frame.specs.Replies.{reply_spelling}
use Rattle.vic_frame.specs.Requests.{request_spelling}
use Rattle.vic_frame.specs.Uids.{is_uid}
use Rattle.vic_answer.specs.declared.spell.TheConstants.{MAX_LINK}
use Rattle.vicinity_c.specs.declared.frames.TheConstants.{FRAME_ROOM, WRONG_REPLY, TOO_LONG}
use Rattle.vicinity_c.specs.declared.frames.VicinityFrame.{VicinityFrame}
use Rattle.vicinity_c.specs.declared.inventory.TheConstants.{WRONG_LINK}
use Rattle.vicinity_c.specs.Inventory.{inventory_fault, inventory_of}

-- a frame with zeros after it
abbrev pub framed : List ℕ → VicinityFrame
framed bytes = record {
  fault = 0;
  len = length bytes;
  bytes = bytes ++ replicate (FRAME_ROOM - length bytes) 0;
}

-- no frame, and why
abbrev pub no_frame : ℕ → VicinityFrame
no_frame fault = record { fault = fault; len = 0; bytes = replicate FRAME_ROOM 0 }

abbrev pub inventory_frame : (link slots len value : ℕ) → VicinityFrame
inventory_frame link slots len value =
    if inventory_fault link slots len value == 0
    then framed (request_spelling (inventory_of link slots len value))
    else no_frame (inventory_fault link slots len value)

abbrev pub stay_quiet_frame : (link uid : ℕ) → VicinityFrame
stay_quiet_frame link uid =
    if nat_lt MAX_LINK link then no_frame WRONG_LINK
    else framed (request_spelling (StayQuiet link uid))

-- the frame of a reply: its flags and DSFID are bytes, Error_flag, the lowest bit, is 0, and its
-- UID begins E0
abbrev pub reply_frame : (flags dsfid uid : ℕ) → VicinityFrame
reply_frame flags dsfid uid =
    if nat_lt flags 256 && nat_lt dsfid 256 && flags % 2 == 0 && is_uid uid
    then framed (reply_spelling (record { flags = flags; dsfid = dsfid; uid = uid }))
    else no_frame WRONG_REPLY

-- bytes with their CRC after them
abbrev pub crc_frame : List ℕ → VicinityFrame
crc_frame bytes =
    if nat_le (length bytes + 2) FRAME_ROOM then framed (with_crc bytes) else no_frame TOO_LONG
