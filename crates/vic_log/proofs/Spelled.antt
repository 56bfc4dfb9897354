-- The line of an entry reads back as the entry.
use Rattle.vic_log.proofs.Words.{◌≡◌, ℕ, suc, ◌*◌, ◌<◌, ◌≤◌, false, Some, None, List, [], ◌∷◌, length, refl, arith, slice_get, slice_index, nat_eq, nat_tests, encode_upper, upper_digits, hex_digit_value, has, Entry, Sent, Silent, Collision, Heard, Listed, Garbled, FieldCycle, Captured, Unknown, Version, V1, V2, V3, IsOfFirstVersion, AreOfFirstVersion, IsOfSecondVersion, AreOfSecondVersion, IsValidEntry, IsTyped, AreTyped, AreValid, entry_text, IsBytes, to_be_bytes, w64, decode_of-encode_upper, length-encode_with, request_spelling, reply_spelling, HasBytes, SpellsEntry}
use Rattle.hex.specs.Hex.{encode_with}
use Rattle.vic_log.proofs.FrameBytes.{AreBytes-request, length-request, AreBytes-reply, length-reply}
use Rattle.vic_log.proofs.Grammar.{digits-of, spelled-reads}
use Rattle.vic_log.proofs.Written.{IsPlain, IsSpelled, AreSpelled}

-- ---- hex digits are neither LF nor CR

no_digit_is : (w d : ℕ) → hex_digit_value w ≡ None → d < 16 → nat_eq w (slice_index upper_digits d) ≡ false
no_digit_is w d none lt = grind (arith, nat_tests)

pub hex_lacks : (w : ℕ) (bytes : List ℕ) → hex_digit_value w ≡ None → IsBytes bytes → has (encode_upper bytes) w ≡ false
unfolding encode_with
hex_lacks w [] none h = refl
hex_lacks w (b ∷ bytes) none h = let fits : b < 256 = h 0 in grind (arith, nat_tests, no_digit_is, hex_lacks w bytes none (λ k. h (suc k)))

hex_long : (bytes : List ℕ) → length (encode_upper bytes) ≡ 2 * length bytes
hex_long bytes = length-encode_with upper_digits bytes

-- ---- a letter, a space and digits

plain_line : (letter : ℕ) (bytes : List ℕ) → nat_eq 10 letter ≡ false → nat_eq 13 letter ≡ false → IsBytes bytes → IsPlain (letter ∷ 32 ∷ encode_upper bytes)
plain_line letter bytes a b h = grind (arith, nat_tests, hex_lacks)

pub be_bytes : (u : ℕ) → IsBytes (to_be_bytes w64 u)
be_bytes u i = grind (arith, nat_tests)

-- a letter, a space and digits
in_digits : (v : Version) (e : Entry) (letter : ℕ) (bytes : List ℕ) → nat_eq 10 letter ≡ false → nat_eq 13 letter ≡ false → IsBytes bytes → length bytes ≤ 63
    → entry_text e ≡ letter ∷ 32 ∷ encode_upper bytes → (HasBytes (entry_text e) letter bytes → SpellsEntry v (entry_text e) e) → IsSpelled v e
in_digits v e letter bytes a b are_bytes few is spells = record {
  reads = spelled-reads v (entry_text e) e (spells (encode_upper bytes, is, digits-of (encode_upper bytes) bytes (decode_of-encode_upper bytes are_bytes)));
  short = let long = hex_long bytes in rw is (omega arith);
  plain = rw is (plain_line letter bytes a b are_bytes);
}

spelled : (version : Version) (e : Entry) → IsTyped e → IsValidEntry e → (version ≡ V1 → IsOfFirstVersion e) → (version ≡ V2 → IsOfSecondVersion e) → IsSpelled version e
spelled version (Sent q) t v o s =
    let few = length-request q t in
    in_digits version (Sent q) 84 (request_spelling q) refl refl (AreBytes-request q t v) (omega arith) refl (λ has. (request_spelling q, (t, v, refl), has))
spelled version Silent t v o s = record { reads = refl; short = omega arith; plain = record { no_lf = refl; no_cr = refl } }
spelled version Collision t v o s = record { reads = refl; short = omega arith; plain = record { no_lf = refl; no_cr = refl } }
spelled version (Heard r) t v o s =
    let few = length-reply r in
    in_digits version (Heard r) 82 (reply_spelling r) refl refl (AreBytes-reply r t) (omega arith) refl (λ has. (reply_spelling r, (t, refl), has))
spelled version (Listed u) t v o s = in_digits version (Listed u) 85 (to_be_bytes w64 u) refl refl (be_bytes u) (omega arith) refl (λ has. (t, has))
spelled V1 Garbled t v o s = absurd (o refl)
spelled V2 Garbled t v o s = record { reads = refl; short = omega arith; plain = record { no_lf = refl; no_cr = refl } }
spelled V3 Garbled t v o s = record { reads = refl; short = omega arith; plain = record { no_lf = refl; no_cr = refl } }
spelled V1 FieldCycle t v o s = absurd (o refl)
spelled V2 FieldCycle t v o s = record { reads = refl; short = omega arith; plain = record { no_lf = refl; no_cr = refl } }
spelled V3 FieldCycle t v o s = record { reads = refl; short = omega arith; plain = record { no_lf = refl; no_cr = refl } }
spelled V1 (Captured r) t v o s = absurd (o refl)
spelled V2 (Captured r) t v o s = absurd (s refl)
spelled V3 (Captured r) t v o s =
    let few = length-reply r in
    in_digits V3 (Captured r) 72 (reply_spelling r) refl refl (AreBytes-reply r t) (omega arith) refl (λ has. (refl, reply_spelling r, (t, refl), has))
spelled V1 Unknown t v o s = absurd (o refl)
spelled V2 Unknown t v o s = absurd (s refl)
spelled V3 Unknown t v o s = record { reads = refl; short = omega arith; plain = record { no_lf = refl; no_cr = refl } }

pub valid_at : (es : List Entry) → AreValid es → (i : ℕ) (e : Entry) → slice_get es i ≡ Some e → IsValidEntry e
valid_at es h i e k = grind (arith, nat_tests)

pub spelled_all : (version : Version) (es : List Entry) → AreTyped es → AreValid es → (version ≡ V1 → AreOfFirstVersion es) → (version ≡ V2 → AreOfSecondVersion es) → AreSpelled version es
spelled_all version es t v o s i e k = spelled version e (t i e k) (valid_at es v i e k) (λ is. o is i e k) (λ is. s is i e k)
