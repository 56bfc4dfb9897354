-- A frame spells a value if and only if its fields do.
use Rattle.vic_frame.proofs.Words.{◌≡◌, ℕ, suc, ◌+◌, ◌-◌, ◌^◌, ◌<◌, Bool, List, ◌∷◌, length, take, take_at, refl, ap, ◌∙◌, arith, BitMask, IsMask, AreBytes, number_of, bytes_of, crc, with_crc, request_spelling, reply_spelling, Inventory, StayQuiet, byte_count, request_body, Reply, reply_body, HasInventoryFields, HasStayQuietFields, HasReplyFields}
use Rattle.vic_frame.proofs.BytesLaws.{bytes_of-take, number_of-bytes_of, length_bytes_of, holds_bits}
use Rattle.vic_frame.proofs.FrameLaws.{crc_frame, with_crc-right, length-with_crc}

-- ---- what is spelled has the fields

pub inventory_fields : (link : ℕ) (s : Bool) (m : BitMask) → IsMask m → HasInventoryFields (request_spelling (Inventory link s m)) link s m
inventory_fields link s m h =
    let body = request_body (Inventory link s m) in
    let bytes = length_bytes_of (byte_count m.len) m.value in
    let size : length (with_crc body) ≡ byte_count m.len + 5 = omega (arith, length-with_crc body, bytes) in
    let inner : length (bytes_of (byte_count m.len) m.value) ≡ length (with_crc body) - 2 - 3 = omega (arith, size, bytes) in
    record {
      size = size;
      flags = refl;
      command = refl;
      mask_length = refl;
      mask_value = ap number_of (take_at (bytes_of (byte_count m.len) m.value) (bytes_of 2 (crc body)) (length (with_crc body) - 2 - 3) inner)
          ∙ number_of-bytes_of (byte_count m.len) m.value (holds_bits m.len m.value h.1);
      crc = with_crc-right body;
    }

pub reply_fields : (r : Reply) → r.uid < 2 ^ 64 → HasReplyFields (reply_spelling r) r
reply_fields r h = record {
  size = omega (arith, length-with_crc (reply_body r), length_bytes_of 8 r.uid);
  flags = refl;
  dsfid = refl;
  uid = ap number_of (take_at (bytes_of 8 r.uid) (bytes_of 2 (crc (reply_body r))) 8 (length_bytes_of 8 r.uid)) ∙ number_of-bytes_of 8 r.uid h;
  crc = with_crc-right (reply_body r);
}

-- Stay Quiet is spelled as a reply with flags 20 and DSFID 02 would be
abbrev as_reply : ℕ → ℕ → Reply
as_reply link uid = record { flags = 0x20 + link; dsfid = 0x02; uid = uid }

pub stay_quiet_fields : (link uid : ℕ) → uid < 2 ^ 64 → HasStayQuietFields (request_spelling (StayQuiet link uid)) link uid
stay_quiet_fields link uid h = assumption (reply_fields (as_reply link uid) h)

-- ---- what has the fields is spelled

pub inventory_from : (f : List ℕ) (link : ℕ) (s : Bool) (m : BitMask) → AreBytes f → HasInventoryFields f link s m → f ≡ request_spelling (Inventory link s m)
inventory_from (x ∷ y ∷ z ∷ xs) link s m h has =
    let size = has.size in
    let cut : length (x ∷ y ∷ z ∷ xs) - 2 ≡ suc (suc (suc (byte_count m.len))) = omega arith in
    let inner : length (x ∷ y ∷ z ∷ xs) - 2 - 3 ≡ byte_count m.len = omega arith in
    let bytes = bytes_of-take (byte_count m.len) xs (λ i. h (suc (suc (suc i)))) (omega arith) in
    let body : take (length (x ∷ y ∷ z ∷ xs) - 2) (x ∷ y ∷ z ∷ xs) ≡ request_body (Inventory link s m) = ap (λ k. take k (x ∷ y ∷ z ∷ xs)) cut ∙ cc in
    crc_frame (x ∷ y ∷ z ∷ xs) h has.crc ∙ ap with_crc body
inventory_from f link s m h has = absurd (omega (arith, has.size))

pub reply_from : (f : List ℕ) (r : Reply) → AreBytes f → HasReplyFields f r → f ≡ reply_spelling r
reply_from (x ∷ y ∷ xs) r h has =
    let size = has.size in
    let cut : length (x ∷ y ∷ xs) - 2 ≡ 10 = omega arith in
    let bytes = bytes_of-take 8 xs (λ i. h (suc (suc i))) (omega arith) in
    let body : take (length (x ∷ y ∷ xs) - 2) (x ∷ y ∷ xs) ≡ reply_body r = ap (λ k. take k (x ∷ y ∷ xs)) cut ∙ cc in
    crc_frame (x ∷ y ∷ xs) h has.crc ∙ ap with_crc body
reply_from f r h has = absurd (omega (arith, has.size))

pub stay_quiet_from : (f : List ℕ) (link uid : ℕ) → AreBytes f → HasStayQuietFields f link uid → f ≡ request_spelling (StayQuiet link uid)
stay_quiet_from f link uid h has = reply_from f (as_reply link uid) h (assumption)
