-- Rounds, found by looking back from a position in a list of entries (ISO/IEC 15693-3, inventory
-- sequence).
use Rattle.std.specs.Prelude.{◌≡◌, ℕ, zero, suc, ◌-◌, ◌<◌, Bool, true, false, Option, Some, None, List, slice_get, if◌then◌else◌}
use Rattle.vic_frame.specs.Masks.{BitMask, lies_in}
use Rattle.vic_frame.specs.Slots.{slot_count, slot_mask}
use Rattle.vic_frame.specs.declared.request.Request.{Request}
use Rattle.vic_log.specs.declared.entry.Entry.{Entry}
use Rattle.vic_log.specs.declared.entry.Entry.TheVariants.{Sent, Silent, Collision, Heard, Listed, Garbled, FieldCycle, Captured, Unknown}

-- the entry is a slot line
abbrev pub is_slot : Entry → Bool
is_slot Silent = true
is_slot Collision = true
is_slot (Heard r) = true
is_slot Garbled = true
is_slot (Captured r) = true
is_slot Unknown = true
is_slot (Sent q) = false
is_slot (Listed u) = false
is_slot FieldCycle = false

-- the entry ends the round before it
abbrev pub ends_round : Option Entry → Bool
ends_round (Some (Sent q)) = true
ends_round (Some (Listed u)) = true
ends_round (Some FieldCycle) = true
ends_round (Some e) = false
ends_round None = false

-- the last position before i whose entry ends a round
abbrev pub opener : List Entry → ℕ → Option ℕ
opener es zero = None
opener es (suc j) = if ends_round (slice_get es j) then Some j else opener es j

-- position i is a slot of the request that its opener sent
abbrev pub IsInRound : List Entry → ℕ → Type 0
IsInRound es i =
    (j : ℕ) × (q : Request) × (opener es i ≡ Some j) × (slice_get es j ≡ Some (Sent q))
    × (i - suc j < slot_count q)

-- how many slots an entry opens
abbrev pub slots_opened : Option Entry → ℕ
slots_opened (Some (Sent q)) = slot_count q
slots_opened (Some e) = 0
slots_opened None = 0

-- how many slots are left at position i of those that the entry at the opener opens
abbrev pub left_since : List Entry → ℕ → Option ℕ → ℕ
left_since es i (Some j) = slots_opened (slice_get es j) - (i - suc j)
left_since es i None = 0

-- how many slots of the round are left at position i: those that its opener opens, without those in
-- between
abbrev pub slots_left : List Entry → ℕ → ℕ
slots_left es i = left_since es i (opener es i)

-- the mask of slot k of the request in an entry
abbrev pub mask_of_slot : Option Entry → ℕ → Option BitMask
mask_of_slot (Some (Sent q)) k = slot_mask q k
mask_of_slot (Some e) k = None
mask_of_slot None k = None

-- the mask of the slot at position i of those that the entry at the opener opens
abbrev pub mask_since : List Entry → ℕ → Option ℕ → Option BitMask
mask_since es i (Some j) = mask_of_slot (slice_get es j) (i - suc j)
mask_since es i None = None

-- the mask of the slot that a slot line at position i is about; slots are counted from the opener
abbrev pub mask_at : List Entry → ℕ → Option BitMask
mask_at es i = mask_since es i (opener es i)

-- the UID lies in the mask, if there is one
abbrev pub lies_in_some : Option BitMask → ℕ → Bool
lies_in_some (Some m) u = lies_in m u
lies_in_some None u = false
