-- A tag's reply to an Inventory request, and how it is spelled (ISO/IEC 15693-3, Inventory
-- response).
use Rattle.std.specs.Prelude.{◌≡◌, ℕ, ◌%◌, ◌<◌, List, ◌∷◌}
use Rattle.vic_frame.specs.Uids.{IsUid}
use Rattle.vic_frame.specs.Bytes.{bytes_of}
use Rattle.vic_frame.specs.Crc.{with_crc}

-- a reply: its flags, its DSFID and its UID
pub record Reply : Type 0 where
  pub flags : ℕ
  pub dsfid : ℕ
  pub uid : ℕ

-- two bytes and a UID; the lowest bit of the flags, Error_flag, is 0 (profile: error replies are
-- excluded)
pub record IsReply (r : Reply) : Type 0 where
  pub flags : r.flags < 256
  pub dsfid : r.dsfid < 256
  pub even : r.flags % 2 ≡ 0
  pub uid : IsUid r.uid

-- flags, DSFID and UID
abbrev pub reply_body : Reply → List ℕ
reply_body r = r.flags ∷ r.dsfid ∷ bytes_of 8 r.uid

-- and the CRC after them: the one spelling of the reply
abbrev pub reply_spelling : Reply → List ℕ
reply_spelling r = with_crc (reply_body r)

-- the bytes spell the reply: they are its spelling
abbrev pub SpellsReply : List ℕ → Reply → Type 0
SpellsReply f r = IsReply r × (f ≡ reply_spelling r)
