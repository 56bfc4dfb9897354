-- How a frame is read: its first fault, or the contents of its fields. The layers above cite this
-- one function; the law `read_where_spelled` says that it agrees with the spelling.
use Rattle.std.specs.Prelude.{ℕ, ◌%◌, ◌==◌, not, Option, Some, None, Result, Ok, Err, List, slice_index, if◌then◌else◌}
use Rattle.vic_frame.specs.declared.fault.FrameFault.{FrameFault}
use Rattle.vic_frame.specs.declared.request.Request.{Request}
use Rattle.vic_frame.specs.declared.request.Request.TheVariants.{Inventory, StayQuiet}
use Rattle.vic_frame.specs.Replies.{Reply}
use Rattle.vic_frame.specs.Bytes.{number_of, bit}
use Rattle.vic_frame.specs.Faults.{flags, command, mask_len, mask_bytes, uid_bytes, first_fault, request_faults, reply_faults}

-- the fault if there is one, else the value
abbrev pub fault_or : {A : Type 0} → Option FrameFault → A → Result A FrameFault
fault_or None x = Ok x
fault_or (Some e) x = Err e

-- the fields of an Inventory request
abbrev pub inventory_in : List ℕ → Request
inventory_in f =
    Inventory (flags f % 4) (not (bit 6 (flags f)))
    (record { len = mask_len f; value = number_of (mask_bytes f) })

-- the fields of a Stay Quiet request
abbrev pub stay_quiet_in : List ℕ → Request
stay_quiet_in f = StayQuiet (flags f % 4) (number_of (uid_bytes f))

-- the fields of a request, by its command
abbrev pub request_in : List ℕ → Request
request_in f = if command f == 1 then inventory_in f else stay_quiet_in f

-- the request of a frame, or the frame's first fault
abbrev pub request_reading : List ℕ → Result Request FrameFault
request_reading f = fault_or (first_fault (request_faults f)) (request_in f)

-- the fields of a reply
abbrev pub reply_in : List ℕ → Reply
reply_in f = record { flags = flags f; dsfid = slice_index f 1; uid = number_of (uid_bytes f) }

-- the reply of a frame, or the frame's first fault
abbrev pub reply_reading : List ℕ → Result Reply FrameFault
reply_reading f = fault_or (first_fault (reply_faults f)) (reply_in f)
