-- The register of a frame with its CRC.
use Rattle.vic_frame.proofs.Words.{◌≡◌, ℕ, zero, suc, ◌-◌, ◌*◌, ◌/◌, ◌^◌, ◌%◌, ◌<◌, ◌≤◌, ◌↔◌, ◌==◌, nat_le, true, List, [], ◌∷◌, ◌++◌, length, take, drop, refl, sym, ap, ◌∙◌, arith, bit_xor, bit_and, xor_comm, xor_lt, and_mask, and_parts, and_from, AreBytes, number_of, bits, bits_of, register, crc, crc_right, le-leb, eqb-true, eq-eqb, length-drop, take-append-drop}
use lib.Bits.{xor_assoc, xor_self, xor_zero_r, xor_add_and, xor_shifted}
use Rattle.std.proofs.lemmas.List.Concat.{flat_map-append}
use Rattle.vic_frame.specs.Crc.{after_bits, step}
use Rattle.vic_frame.proofs.BytesLaws.{AreBytes-drop, number_within}
use Rattle.vic_frame.proofs.CrcLaws.{shift, shifts, shifts-add, shifts-xor, shifts-high, after_bits-append, after_bits-shifts}

xor_cancel : (a b : ℕ) → bit_xor a (bit_xor a b) ≡ b
xor_cancel a b = sym (xor_assoc a a b) ∙ ap (λ x. bit_xor x b) (xor_self a)

xor_zero : (a b : ℕ) → bit_xor a b ≡ 0 → a ≡ b
xor_zero a b e = sym (xor_zero_r a) ∙ ap (bit_xor a) (sym e) ∙ xor_cancel a b

-- ---- nothing but 0 is shifted to 0

shift_zero : (z : ℕ) → z < 2 ^ 16 → shift z ≡ 0 → z ≡ 0
shift_zero z small e = omega (arith, xor_zero (z / 2) (z % 2 * 0x8408) e)

shift_below : (z : ℕ) → z < 2 ^ 16 → shift z < 2 ^ 16
shift_below z small = xor_lt 16 (z / 2) (z % 2 * 0x8408) (omega arith) (omega arith)

shifts_zero : (k z : ℕ) → z < 2 ^ 16 → shifts k z ≡ 0 → z ≡ 0
unfolding shifts
shifts_zero zero z small e = e
shifts_zero (suc k) z small e = shift_zero z small (shifts_zero k (shift z) (shift_below z small) e)

-- ---- two bytes more

complement : (r : ℕ) → r < 2 ^ 16 → bit_xor r 0xFFFF ≡ 0xFFFF - r
complement r small =
    let mask : bit_and r 0xFFFF ≡ r % 2 ^ 16 = and_mask r 16 in
    omega (arith, xor_add_and r 0xFFFF, mask)

ends_right : shifts 16 0xFFFF ≡ 0xF0B8
unfolding shifts
ends_right = refl

ends_only : (x : ℕ) → x < 2 ^ 16 → shifts 16 x ≡ 0xF0B8 → x ≡ 0xFFFF
ends_only x small e =
    let none : shifts 16 (bit_xor x 0xFFFF) ≡ 0 = shifts-xor 16 x 0xFFFF ∙ ap (λ y. bit_xor y (shifts 16 0xFFFF)) (e ∙ sym ends_right) ∙ xor_self (shifts 16 0xFFFF) in
    xor_zero x 0xFFFF (shifts_zero 16 (bit_xor x 0xFFFF) (xor_lt 16 x 0xFFFF small (omega arith)) none)

after-two : (r : ℕ) (xs : List ℕ) → length xs ≡ 2 → AreBytes xs → after_bits r (bits xs) ≡ shifts 16 (bit_xor r (number_of xs))
unfolding after_bits
after-two r (x ∷ y ∷ []) len h =
    let parts : bit_xor x (y * 2 ^ 8) ≡ number_of (x ∷ y ∷ []) = xor_comm x (y * 2 ^ 8) ∙ xor_shifted y 8 x (h 0) ∙ omega arith in
    after_bits-append r (bits_of 8 x) (bits (y ∷ []))
    ∙ after_bits-append (after_bits r (bits_of 8 x)) (bits_of 8 y) []
    ∙ after_bits-shifts 8 (after_bits r (bits_of 8 x)) y (h 1)
    ∙ ap (λ s. shifts 8 (bit_xor s y)) (after_bits-shifts 8 r x (h 0))
    ∙ ap (λ s. shifts 8 (bit_xor (shifts 8 (bit_xor r x)) s)) (sym (shifts-high 8 y))
    ∙ ap (shifts 8) (sym (shifts-xor 8 (bit_xor r x) (y * 2 ^ 8)) ∙ ap (shifts 8) (xor_assoc r x (y * 2 ^ 8) ∙ ap (bit_xor r) parts))
    ∙ sym (shifts-add 8 8 (bit_xor r (number_of (x ∷ y ∷ []))))
after-two r xs len h = absurd (omega arith)

step-below : (r b : ℕ) → r < 2 ^ 16 → step r b < 2 ^ 16
unfolding step
step-below r b small = let fed = xor_lt 16 (r / 2) 0x8408 (omega arith) (omega arith) in grind arith

after-below : (r : ℕ) (bs : List ℕ) → r < 2 ^ 16 → after_bits r bs < 2 ^ 16
unfolding after_bits
after-below r [] small = small
after-below r (b ∷ bs) small = after-below (step r b) bs (step-below r b small)

-- the end that is right after a register
right_end : (r n : ℕ) → r < 2 ^ 16 → n < 2 ^ 16 → (n ≡ 0xFFFF - r) ↔ (shifts 16 (bit_xor r n) ≡ 0xF0B8)
right_end r n small fits = (
  λ e. ap (λ m. shifts 16 (bit_xor r m)) (e ∙ sym (complement r small)) ∙ ap (shifts 16) (xor_cancel r 0xFFFF) ∙ ends_right,
  λ e. sym (xor_cancel r n) ∙ ap (bit_xor r) (ends_only (bit_xor r n) (xor_lt 16 r n small fits) e) ∙ complement r small,
)

-- the register of bytes and two more
register_with : (xs end : List ℕ) → length end ≡ 2 → AreBytes end → register (xs ++ end) ≡ shifts 16 (bit_xor (register xs) (number_of end))
register_with xs end two h =
    ap (after_bits 0xFFFF) (flat_map-append (bits_of 8) xs end) ∙ after_bits-append 0xFFFF (bits xs) (bits end) ∙ after-two (register xs) end two h

pub residue : (f : List ℕ) → AreBytes f → 2 ≤ length f → (crc_right f ≡ true) ↔ (register f ≡ 0xF0B8)
residue f h long =
    let xs = take (length f - 2) f in
    let end = drop (length f - 2) f in
    let two : length end ≡ 2 = omega (arith, length-drop (length f - 2) f) in
    let bytes = AreBytes-drop (length f - 2) f h in
    let whole : register f ≡ shifts 16 (bit_xor (register xs) (number_of end)) = ap register (sym (take-append-drop (length f - 2) f)) ∙ register_with xs end two bytes in
    let right = right_end (register xs) (number_of end) (after-below 0xFFFF (bits xs) (omega arith)) (number_within 2 end bytes (omega arith)) in (
      λ e. whole ∙ right.0 (eqb-true (number_of end) (crc xs) (and_parts (nat_le 2 (length f)) (number_of end == crc xs) e).1),
      λ e. and_from (nat_le 2 (length f)) (number_of end == crc xs) (le-leb 2 (length f) long) (eq-eqb (number_of end) (crc xs) (right.1 (sym whole ∙ e))),
    )
