-- The slots that a request opens (ISO/IEC 15693-3, inventory sequence).
use Rattle.std.specs.Prelude.{ℕ, Option, Some, None, nat_lt, if◌then◌else◌}
use Rattle.vic_frame.specs.declared.request.Request.{Request}
use Rattle.vic_frame.specs.declared.request.Request.TheVariants.{Inventory, StayQuiet}
use Rattle.vic_frame.specs.Masks.{BitMask, slot_of_sixteen}

-- one or sixteen; Stay Quiet opens none
abbrev pub slot_count : Request → ℕ
slot_count (Inventory link sixteen m) = if sixteen then 16 else 1
slot_count (StayQuiet link uid) = 0

-- the mask of slot k of an Inventory request; Stay Quiet has no slots, and its mask here means
-- nothing
abbrev pub mask_in : Request → ℕ → BitMask
mask_in (Inventory link sixteen m) k = if sixteen then slot_of_sixteen m k else m
mask_in (StayQuiet link uid) k = record { len = 0; value = 0 }

-- the mask of slot k, if the request has that slot
abbrev pub slot_mask : Request → ℕ → Option BitMask
slot_mask q k = if nat_lt k (slot_count q) then Some (mask_in q k) else None
