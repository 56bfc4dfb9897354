-- Requests: what has no fault is spelled, and what is spelled has none.
use Rattle.vic_frame.proofs.Words.{◌≡◌, ℕ, suc, ◌+◌, ◌*◌, ◌/◌, ◌^◌, ◌%◌, ◌<◌, ◌≤◌, ◌==◌, not, nat_lt, Bool, true, false, None, Ok, IfOk, List, length, take, drop, if◌then◌else◌, inl, inr, refl, ap, arith, length-take, eqb-true, eq-eqb, ne_eqb, ltb-false, le-ltb, ltb-true, lt-ltb, cases_Bool, BitMask, IsMask, AreBytes, number_of, bit, crc_right, request_spelling, first_fault, flags, uid_bytes, fault_or, not-false, not_from_true, Inventory, StayQuiet, IsValid, IsInRange, byte_count, SpellsRequest, command, mask_len, mask_bytes, inventory_faults, stay_quiet_faults, request_faults, inventory_in, stay_quiet_in, request_in}
use Rattle.vic_frame.specs.declared.request.Request.{Request}
use Rattle.vic_frame.proofs.BytesLaws.{number_within, AreBytes-take, AreBytes-drop}
use Rattle.vic_frame.proofs.FrameLaws.{AllFail, all_fail, none_from, found_from, bit_is}
use Rattle.vic_frame.proofs.FieldLaws.{inventory_fields, inventory_from, stay_quiet_fields, stay_quiet_from}

-- ---- what has no fault is spelled

-- a byte whose bits 4, 5, 7 and 8 are 0, by its bits 3 and 6
eight_bits : (b t s : ℕ) → b < 256 → bit 4 b ≡ false → bit 8 b ≡ false → bit 7 b ≡ false → bit 5 b ≡ false → b / 4 % 2 ≡ t → b / 32 % 2 ≡ s → b ≡ t * 4 + s * 32 + b % 4
eight_bits b t s small b4 b8 b7 b5 b3 b6 = omega (arith, bit_is 4 b false b4, bit_is 8 b false b8, bit_is 7 b false b7, bit_is 5 b false b5)

inventory_flags : (b : ℕ) (s : Bool) → b ≡ 1 * 4 + (if s then 1 else 0) * 32 + b % 4 → b ≡ (if not s then 0x04 else 0x24) + b % 4
inventory_flags b true e = e
inventory_flags b false e = e

valid_from : (s : Bool) (link : ℕ) (m : BitMask) → link ≤ 3 → nat_lt (if s then 64 else 60) m.len ≡ false → m.value < 2 ^ m.len → IsMask m × IsValid (Inventory link (not s) m)
valid_from true link m few fits below = ((ltb-false 64 m.len fits, below), few)
valid_from false link m few fits below = let short = ltb-false 60 m.len fits in ((omega arith, below), (few, short))

inventory_sound : (f : List ℕ) → AreBytes f → (command f == 1) ≡ true → AllFail (request_faults f) → SpellsRequest f (inventory_in f)
inventory_sound f h c (short, (wrong, (b4, (b8, (b7, (known, (third, own))))))) =
    let p : AllFail (inventory_faults f) = rw c at own in
    let s = bit 6 (flags f) in
    let b3 = bit_is 3 (flags f) true (not-false (bit 3 (flags f)) (rw c at third)) in
    let below = ltb-true (number_of (mask_bytes f)) (2 ^ mask_len f) (not-false _ p.1.1.1.1.0) in
    let valid = valid_from s (flags f % 4) (record { len = mask_len f; value = number_of (mask_bytes f) }) (omega arith) p.1.1.0 below in (
      valid.0,
      valid.1,
      inventory_from f (flags f % 4) (not s) (record { len = mask_len f; value = number_of (mask_bytes f) }) h (record {
        size = eqb-true (length f) (byte_count (mask_len f) + 5) (not-false _ p.1.1.1.0);
        flags = inventory_flags (flags f) s (eight_bits (flags f) 1 (if s then 1 else 0) (h 0) b4 b8 b7 p.0 b3 (bit_is 6 (flags f) s refl));
        command = eqb-true (command f) 1 c;
        mask_length = refl;
        mask_value = refl;
        crc = not-false (crc_right f) wrong;
      }),
    )

uid_small : (f : List ℕ) → AreBytes f → number_of (uid_bytes f) < 2 ^ 64
uid_small f h = number_within 8 (take 8 (drop 2 f)) (AreBytes-take 8 (drop 2 f) (AreBytes-drop 2 f h)) (omega (arith, length-take 8 (drop 2 f)))

stay_quiet_sound : (f : List ℕ) → AreBytes f → (command f == 1) ≡ false → AllFail (request_faults f) → SpellsRequest f (stay_quiet_in f)
stay_quiet_sound f h c (short, (wrong, (b4, (b8, (b7, (known, (third, own))))))) =
    let p : AllFail (stay_quiet_faults f) = rw c at own in
    let b3 = bit_is 3 (flags f) false (rw c at third) in
    let b6 = bit_is 6 (flags f) true (not-false (bit 6 (flags f)) p.1.0) in
    let known_two : not (command f == 2) ≡ false = rw c at known in (
      uid_small f h,
      omega arith,
      stay_quiet_from f (flags f % 4) (number_of (uid_bytes f)) h (record {
        size = eqb-true (length f) 12 (not-false _ p.1.1.0);
        flags = eight_bits (flags f) 0 1 (h 0) b4 b8 b7 p.0 b3 b6;
        command = eqb-true (command f) 2 (not-false _ known_two);
        uid = refl;
        crc = not-false (crc_right f) wrong;
      }),
    )

pub request_sound : (f : List ℕ) → AreBytes f → first_fault (request_faults f) ≡ None → SpellsRequest f (request_in f)
request_sound f h none =
    let p = all_fail (request_faults f) none in
    elim (cases_Bool (command f == 1)) [
      | inl c ↦ rw c (inventory_sound f h c p)
      | inr c ↦ rw c (stay_quiet_sound f h c p)
    ]

pub request_found : (f : List ℕ) → AreBytes f → IfOk (fault_or (first_fault (request_faults f)) (request_in f)) (λ q. SpellsRequest f q)
request_found f h = found_from (first_fault (request_faults f)) (request_in f) (λ q. SpellsRequest f q) (request_sound f h)

-- ---- what is spelled has no fault

within_longest : (link : ℕ) (s : Bool) (m : BitMask) → IsMask m → IsValid (Inventory link s m) → nat_lt (if s then 60 else 64) m.len ≡ false
within_longest link true m h v = le-ltb 60 m.len v.1
within_longest link false m h v = le-ltb 64 m.len h.0

-- and is read as the request; each of the four links is tried
inventory_read : (s : Bool) (link : ℕ) (m : BitMask) → IsMask m → IsValid (Inventory link s m)
    → (first_fault (request_faults (request_spelling (Inventory link s m))) ≡ None) × (request_in (request_spelling (Inventory link s m)) ≡ Inventory link s m)
inventory_read true (suc (suc (suc (suc n)))) m h v = absurd (omega (arith, v.0))
inventory_read false (suc (suc (suc (suc n)))) m h v = absurd (omega arith)
inventory_read s link m h v =
    let has = inventory_fields link s m h in
    let size = has.size in
    let below : number_of (mask_bytes (request_spelling (Inventory link s m))) < 2 ^ m.len = rw has.mask_value h.1 in (
      none_from (request_faults (request_spelling (Inventory link s m))) (
        le-ltb _ 4 (omega arith),
        (
          not_from_true _ has.crc,
          (
            refl,
            (
              refl,
              (
                refl,
                (
                  refl,
                  (
                    refl,
                    (
                      refl,
                      (ne_eqb _ 4 (λ e. omega arith), (within_longest link s m h v, (not_from_true _ (eq-eqb _ _ size), (not_from_true _ (lt-ltb _ _ below), tt)))),
                    ),
                  ),
                ),
              ),
            ),
          ),
        ),
      ),
      ap (λ n. Inventory link s (record { len = m.len; value = n })) has.mask_value,
    )

pub request_read : (q : Request) → IsInRange q → IsValid q → (first_fault (request_faults (request_spelling q)) ≡ None) × (request_in (request_spelling q) ≡ q)
request_read (Inventory link s m) h v = inventory_read s link m h v
request_read (StayQuiet (suc (suc (suc (suc n)))) uid) h v = absurd (omega arith)
request_read (StayQuiet link uid) h v =
    let has = stay_quiet_fields link uid h in
    let size = has.size in (
      none_from (request_faults (request_spelling (StayQuiet link uid))) (
        le-ltb _ 4 (omega arith),
        (
          not_from_true _ has.crc,
          (
            refl,
            (
              refl,
              (
                refl,
                (
                  refl,
                  (
                    refl,
                    (
                      refl,
                      (
                        refl,
                        (not_from_true _ (eq-eqb _ 12 size), tt),
                      ),
                    ),
                  ),
                ),
              ),
            ),
          ),
        ),
      ),
      ap (StayQuiet link) has.uid,
    )

pub request_only : (f : List ℕ) (q : Request) → SpellsRequest f q → fault_or (first_fault (request_faults f)) (request_in f) ≡ Ok q
request_only f q s =
    let read = request_read q s.0 s.1 in
    rw (s.2, read.0) (ap Ok read.1)
