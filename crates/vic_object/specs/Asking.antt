-- What asks for open masks, and what requests ask.
use Rattle.std.specs.Prelude.{◌≡◌, ℕ, zero, suc, ◌-◌, ◌/◌, ◌%◌, ◌^◌, ◌<◌, ◌==◌, ◌&&◌, ◌||◌, ◌++◌, ◌∷◌, [], Bool, true, false, Option, Some, None, List, length, nat_lt, slice_get, if◌then◌else◌}
use Rattle.std.specs.List.{Contains}
use Rattle.vic_frame.specs.Masks.{BitMask, lies_in, slot_of_sixteen}
use Rattle.vic_frame.specs.Slots.{mask_in, slot_count}
use Rattle.vic_frame.specs.Uids.{IsUid}
use Rattle.vic_frame.specs.declared.mask.TheConstants.{MAX_MASK_LEN_OF_SIXTEEN}
use Rattle.vic_frame.specs.declared.request.Request.{Request}
use Rattle.vic_frame.specs.declared.request.Request.TheVariants.{Inventory}
use Rattle.vic_log.specs.Rounds.{mask_at}
use Rattle.vic_log.specs.declared.entry.Entry.{Entry}
use Rattle.vic_log.specs.declared.entry.Entry.TheVariants.{Collision}
use Rattle.vic_verdict.specs.Differences.{IsUndecided}

-- ---- where tags collided

-- they are the same mask
abbrev pub is_same : BitMask → BitMask → Bool
is_same m n = (m.len == n.len) && (m.value == n.value)

abbrev pub is_collision : Option Entry → Bool
is_collision (Some Collision) = true
is_collision (Some e) = false
is_collision None = false

abbrev pub is_mask_of : Option BitMask → BitMask → Bool
is_mask_of (Some n) m = is_same n m
is_mask_of None m = false

-- before a position tags collided in a slot with this mask
abbrev pub collided_before : List Entry → ℕ → BitMask → Bool
collided_before es zero m = false
collided_before es (suc i) m =
    (is_collision (slice_get es i) && is_mask_of (mask_at es i) m) || collided_before es i m

-- the second mask lies within the first: it is the same, or it has more bits, and ends in its bits
abbrev pub is_within : BitMask → BitMask → Bool
is_within m n = is_same m n || (nat_lt m.len n.len && (n.value % 2 ^ m.len == m.value))

abbrev pub is_one_within : Option BitMask → BitMask → Bool
is_one_within (Some n) m = is_within m n
is_one_within None m = false

-- before a position tags collided in a slot whose mask lies within this one
abbrev pub collided_within_before : List Entry → ℕ → BitMask → Bool
collided_within_before es zero m = false
collided_within_before es (suc i) m =
    (is_collision (slice_get es i) && is_one_within (mask_at es i) m)
    || collided_within_before es i m

-- tags collided in a slot whose mask lies within this one
abbrev pub has_collided_within : List Entry → BitMask → Bool
has_collided_within es m = collided_within_before es (length es) m

-- tags collided in a slot with this mask
abbrev pub has_collided : List Entry → BitMask → Bool
has_collided es m = collided_before es (length es) m

-- tags collided in a slot with the mask of one of the first k slots of sixteen of a mask
unfoldable pub has_collided_below : List Entry → BitMask → ℕ → Bool
has_collided_below es m zero = false
has_collided_below es m (suc k) =
    has_collided es (slot_of_sixteen m k) || has_collided_below es m k

-- ---- what asks for an open mask

-- what `asks` has for each of the first k of the sixteen slots of a mask, in their order
unfoldable pub of_slots : (BitMask → List Request) → BitMask → ℕ → List Request
of_slots asks m zero = []
of_slots asks m (suc k) = of_slots asks m k ++ asks (slot_of_sixteen m k)

-- what asks for a mask, n levels deep at most. If tags collided in one of its sixteen slots, they
-- would collide there again: each of the sixteen is asked for by itself, a level deeper. Else it is
-- one request: of sixteen slots, if the mask is that of all tags, or tags collided in it or within
-- it; of one slot, if not
abbrev pub asks_in : List Entry → ℕ → ℕ → BitMask → List Request
asks_in es zero link m = []
asks_in es (suc n) link m =
    if has_collided_below es m 16 then of_slots (asks_in es n link) m 16
    else Inventory link (m.len == 0 || has_collided_within es m) m ∷ []

-- what asks for an open mask: once it has 56 bits, it has one UID and isn't divided
abbrev pub asks_for : List Entry → ℕ → BitMask → List Request
asks_for es link m = asks_in es ((MAX_MASK_LEN_OF_SIXTEEN - m.len) / 4) link m

-- ---- what requests ask

-- each UID that lies in a slot of one of the requests may be there or not, by the entries
abbrev pub AsksOnlyOpen : List Entry → List Request → Type 0
AsksOnlyOpen es qs =
    (q : Request) (k u : ℕ) → Contains qs q → k < slot_count q → IsUid u
    → lies_in (mask_in q k) u ≡ true → IsUndecided es u

-- no slot of one of the requests has the mask of a slot in which tags collided
abbrev pub AsksNoneAgain : List Entry → List Request → Type 0
AsksNoneAgain es qs =
    (q : Request) (k : ℕ) → Contains qs q → k < slot_count q
    → has_collided es (mask_in q k) ≡ false

-- in no request of one slot tags are sure to collide: they didn't in its mask, nor within it
abbrev pub AsksNoneInVain : List Entry → List Request → Type 0
AsksNoneInVain es qs =
    (link : ℕ) (m : BitMask) → Contains qs (Inventory link false m)
    → has_collided_within es m ≡ false
