-- Inventory requests by their numbers, and the masks of their slots in a struct of C.
use Rattle.std.specs.Prelude.{ℕ, ◌^◌, ◌==◌, ◌||◌, not, nat_le, nat_lt, if◌then◌else◌}
use Rattle.vic_frame.specs.declared.mask.TheConstants.{MAX_MASK_LEN, MAX_MASK_LEN_OF_SIXTEEN}
use Rattle.vic_frame.specs.declared.request.Request.{Request}
use Rattle.vic_frame.specs.declared.request.Request.TheVariants.{Inventory}
use Rattle.vic_frame.specs.Masks.{BitMask}
use Rattle.vic_frame.specs.Slots.{mask_in}
use Rattle.vic_answer.specs.declared.spell.TheConstants.{MAX_LINK}
use Rattle.vicinity_c.specs.declared.inventory.TheConstants.{WRONG_LINK, WRONG_SLOTS, WRONG_MASK, WRONG_SLOT}
use Rattle.vicinity_c.specs.declared.inventory.VicinityMask.{VicinityMask}

-- the longest mask, by the number of slots
abbrev pub longest_mask : ℕ → ℕ
longest_mask slots = if slots == 16 then MAX_MASK_LEN_OF_SIXTEEN else MAX_MASK_LEN

-- the fault of the numbers of an Inventory request, the first that applies, or 0
abbrev pub inventory_fault : (link slots len value : ℕ) → ℕ
inventory_fault link slots len value =
    if nat_lt MAX_LINK link then WRONG_LINK
    else if not (slots == 1 || slots == 16) then WRONG_SLOTS
    else if nat_lt (longest_mask slots) len || nat_le (2 ^ len) value then WRONG_MASK
    else 0

-- the request of these numbers
abbrev pub inventory_of : (link slots len value : ℕ) → Request
inventory_of link slots len value =
    Inventory link (slots == 16) (record { len = len; value = value })

abbrev pub mask_fields : BitMask → VicinityMask
mask_fields m = record { fault = 0; len = m.len; value = m.value }

abbrev pub no_mask : ℕ → VicinityMask
no_mask fault = record { fault = fault; len = 0; value = 0 }

-- the mask of a slot, counted from 0, of an Inventory request with these slots and this mask
abbrev pub slot_mask : (slots len value slot : ℕ) → VicinityMask
slot_mask slots len value slot =
    if inventory_fault 0 slots len value == 0
    then (if nat_lt slot slots
    then mask_fields (mask_in (inventory_of 0 slots len value) slot)
    else no_mask WRONG_SLOT)
    else no_mask (inventory_fault 0 slots len value)
