-- Frames by their fields: which byte is where. A law says that a frame spells a value if and only
-- if its fields do.
use Rattle.std.specs.Prelude.{◌≡◌, ℕ, ◌+◌, ◌-◌, Bool, true, List, length, slice_index, slice_range, if◌then◌else◌}
use Rattle.vic_frame.specs.Masks.{BitMask}
use Rattle.vic_frame.specs.Bytes.{number_of}
use Rattle.vic_frame.specs.Crc.{crc_right}
use Rattle.vic_frame.specs.Requests.{byte_count}
use Rattle.vic_frame.specs.Replies.{Reply}

-- flags 24 for one slot or 04 for sixteen, command 01, mask length, mask value, CRC (ISO/IEC
-- 15693-3, Inventory request)
pub record HasInventoryFields (f : List ℕ) (link : ℕ) (sixteen : Bool) (m : BitMask)
    : Type 0 where
  pub size : length f ≡ byte_count m.len + 5
  pub flags : slice_index f 0 ≡ (if sixteen then 0x04 else 0x24) + link
  pub command : slice_index f 1 ≡ 0x01
  pub mask_length : slice_index f 2 ≡ m.len
  pub mask_value : number_of (slice_range f 3 (length f - 2)) ≡ m.value
  pub crc : crc_right f ≡ true

-- flags 20, command 02, UID, CRC (ISO/IEC 15693-3, Stay Quiet)
pub record HasStayQuietFields (f : List ℕ) (link number : ℕ) : Type 0 where
  pub size : length f ≡ 12
  pub flags : slice_index f 0 ≡ 0x20 + link
  pub command : slice_index f 1 ≡ 0x02
  pub uid : number_of (slice_range f 2 10) ≡ number
  pub crc : crc_right f ≡ true

-- flags, DSFID, UID, CRC (ISO/IEC 15693-3, Inventory response)
pub record HasReplyFields (f : List ℕ) (r : Reply) : Type 0 where
  pub size : length f ≡ 12
  pub flags : slice_index f 0 ≡ r.flags
  pub dsfid : slice_index f 1 ≡ r.dsfid
  pub uid : number_of (slice_range f 2 10) ≡ r.uid
  pub crc : crc_right f ≡ true
