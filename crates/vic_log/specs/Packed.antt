-- A line of a log, packed.
use Rattle.std.specs.Prelude.{ℕ, ⊤}
use Rattle.vic_frame.specs.Masks.{IsMask}
use Rattle.vic_frame.specs.Replies.{IsReply}
use Rattle.vic_frame.specs.declared.request.Request.{Request}
use Rattle.vic_frame.specs.declared.request.Request.TheVariants as request
use Rattle.vic_log.specs.declared.entry.Entry.{Entry}
use Rattle.vic_log.specs.declared.entry.Entry.TheVariants as entry
use Rattle.vic_log.specs.declared.entry.LogLine.{LogLine}
use Rattle.vic_log.specs.declared.packed.Packed.{Packed}
use Rattle.vic_log.specs.declared.packed.Packed.TheVariants.{Inventory, StayQuiet, Silent, Collision, Heard, Listed, Garbled, FieldCycle, Captured, Unknown}

abbrev on : ℕ → Entry → LogLine
on number item = record { number = number; item = item }

-- the line that is packed
abbrev pub line_of : Packed → LogLine
line_of (Inventory link sixteen len number value) =
    on number (entry.Sent (request.Inventory link sixteen (record { len = len; value = value })))
line_of (StayQuiet link number uid) = on number (entry.Sent (request.StayQuiet link uid))
line_of (Silent number) = on number entry.Silent
line_of (Collision number) = on number entry.Collision
line_of (Heard flags dsfid number uid) =
    on number (entry.Heard (record { flags = flags; dsfid = dsfid; uid = uid }))
line_of (Listed number uid) = on number (entry.Listed uid)
line_of (Garbled number) = on number entry.Garbled
line_of (FieldCycle number) = on number entry.FieldCycle
line_of (Captured flags dsfid number uid) =
    on number (entry.Captured (record { flags = flags; dsfid = dsfid; uid = uid }))
line_of (Unknown number) = on number entry.Unknown

abbrev packed_request : ℕ → Request → Packed
packed_request number (request.Inventory link sixteen mask) =
    Inventory link sixteen mask.len number mask.value
packed_request number (request.StayQuiet link uid) = StayQuiet link number uid

-- an entry, packed with the number of its line
abbrev pub packed_of : ℕ → Entry → Packed
packed_of number (entry.Sent q) = packed_request number q
packed_of number entry.Silent = Silent number
packed_of number entry.Collision = Collision number
packed_of number (entry.Heard r) = Heard r.flags r.dsfid number r.uid
packed_of number (entry.Listed u) = Listed number u
packed_of number entry.Garbled = Garbled number
packed_of number entry.FieldCycle = FieldCycle number
packed_of number (entry.Captured r) = Captured r.flags r.dsfid number r.uid
packed_of number entry.Unknown = Unknown number

-- its fields are those of a mask and of a reply
abbrev pub IsPacked : Packed → Type 0
IsPacked (Inventory link sixteen len number value) =
    IsMask (record { len = len; value = value })
IsPacked (Heard flags dsfid number uid) =
    IsReply (record { flags = flags; dsfid = dsfid; uid = uid })
IsPacked (Captured flags dsfid number uid) =
    IsReply (record { flags = flags; dsfid = dsfid; uid = uid })
IsPacked p = ⊤
