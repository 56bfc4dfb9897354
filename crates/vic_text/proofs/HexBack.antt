-- What is written in hex digits is read back.
use Rattle.std.proofs.Common.{Some, ap, arith, refl, sym, subst, take, drop, take-append-drop, replicate, length, zero, suc, ℕ, ◌++◌, ◌+◌, ◌-◌, ◌/◌, ◌^◌, ◌<◌, ◌∙◌, ◌∷◌, ◌≡◌, ◌≤◌, Ok}
use Rattle.std.proofs.Math.Nat.{pow-le-pow_right}
use Rattle.std.proofs.lemmas.List.{get_or-drop, length-drop}
use Rattle.std.proofs.lemmas.Nat.{from_be_bytes-to_be_bytes_8}
use Rattle.std.proofs.lemmas.Slice.Eq.{bytes_eq-Decides}
use Rattle.std.specs.Int.{byte_at, bytes_high_first, from_be_bytes, to_be_bytes, w64}
use Rattle.hex.proofs.HexLemmas.{decode_of-encode_upper, decode_sized-twice, length-encode_with}
use Rattle.hex.specs.Hex.{IsBytes, decode_sized, encode_upper, upper_digits}
use Rattle.vic_text.specs.Digits.{hex_bytes}
use Rattle.vic_text.specs.Values.{number_ending, hex_number_in}

quotient_zero : (n d : ℕ) → n < d → n / d ≡ 0
quotient_zero n d h = grind arith

byte_zero : (k n : ℕ) → n < 256 ^ k → byte_at k n ≡ 0
byte_zero zero n h = omega arith
byte_zero (suc k) n h = rw (quotient_zero n (256 ^ suc k) h) refl

-- the bytes before the last of a number are zeros
zeros_before : (pad count n : ℕ) → n < 256 ^ count → take pad (bytes_high_first (pad + count) n) ≡ replicate pad 0
zeros_before zero count n h = refl
zeros_before (suc pad) count n h =
    let e : suc pad + count ≡ suc (pad + count) = omega arith in
    let most = pow-le-pow_right {n = 256} (omega arith) {i = count} {j = pad + count} (omega arith) in
    let none : byte_at (pad + count) n ≡ 0 = byte_zero (pad + count) n (omega (arith, h, most)) in
    rw (e, none) (ap (λ xs. 0 ∷ xs) (zeros_before pad count n h))

bytes_high : (count n : ℕ) → IsBytes (bytes_high_first count n)
bytes_high zero n i = omega arith
bytes_high (suc zero) n zero = omega arith
bytes_high (suc (suc count)) n zero = omega arith
bytes_high (suc count) n (suc i) = bytes_high count n i

-- how many digits there are
pub length_hex : (count n : ℕ) → count ≤ 8 → length (hex_bytes count n) ≡ count + count
length_hex count n h = omega (arith, length-drop (8 - count) (to_be_bytes w64 n), length-encode_with upper_digits (drop (8 - count) (to_be_bytes w64 n)), h)

-- that many bytes of a number are read back as it
pub hex_back : (count n : ℕ) → count ≤ 8 → n < 256 ^ count → hex_number_in count (hex_bytes count n) ≡ Some n
hex_back count n h small =
    let all = to_be_bytes w64 n in
    let bs = drop (8 - count) all in
    let len : length bs ≡ count = omega (arith, length-drop (8 - count) all, h) in
    let bytes : IsBytes bs = λ i. subst (λ x. x < 256) (sym (get_or-drop (8 - count) all i 0)) (bytes_high 8 n ((8 - count) + i)) in
    let decoded : decode_sized (hex_bytes count n) count ≡ Ok bs = decode_sized-twice (encode_upper bs) count (omega (arith, length-encode_with upper_digits bs, len)) ∙ decode_of-encode_upper bs bytes in
    let e : (8 - count) + count ≡ 8 = omega arith in
    let zeros : take (8 - count) all ≡ replicate (8 - count) 0 = ap (λ k. take (8 - count) (bytes_high_first k n)) (sym e) ∙ zeros_before (8 - count) count n small in
    let whole : replicate (8 - length bs) 0 ++ bs ≡ all = ap (λ k. replicate (8 - k) 0 ++ bs) len ∙ ap (λ zs. zs ++ bs) (sym zeros) ∙ take-append-drop (8 - count) all in
    let most = pow-le-pow_right {n = 256} (omega arith) {i = count} {j = 8} h in
    let ending : number_ending bs ≡ n = ap (from_be_bytes w64) whole ∙ from_be_bytes-to_be_bytes_8 n (omega (arith, small, most)) in
    rw (decoded, ending, (bytes_eq-Decides (hex_bytes count n) (hex_bytes count n)).1 refl) refl
