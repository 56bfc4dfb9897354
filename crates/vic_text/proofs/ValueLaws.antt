-- Numbers are read back from their texts, and nothing else is read.
use Rattle.std.proofs.Common.{Bool, List, None, Option, Some, [], ap, arith, bytes_eq, decimal, if◌then◌else◌, length, lt-ltb, nat_lt, ne_eqb, refl, slice_index, subst, suc, sym, true, false, zero, ℕ, ◌&&◌, ◌==◌, ◌^◌, ◌<◌, ◌∙◌, ◌∷◌, ◌≡◌, ◌≤◌, Ok, Err, Result}
use Rattle.std.proofs.lemmas.Bool.{and_parts, ltb-true}
use Rattle.std.proofs.lemmas.Fmt.{IsAscii-decimal, decimal_is_IsNumeral, parse-decimal}
use Rattle.std.proofs.lemmas.Slice.Eq.{bytes_eq-Decides}
use Rattle.std.proofs.lemmas.Str.{IsUtf8-from_ascii}
use Rattle.std.specs.Str.{IsUtf8}
use Rattle.std.specs.Str.Parse.{ParsesUnsigned, digits_value}
use Rattle.hex.proofs.HexLemmas.{decode_of-ok, decode_sized-ok, decode_sized-twice}
use Rattle.hex.specs.Hex.{decode_sized}
use Rattle.hex.specs.declared.error.FromHexError.{FromHexError}
use Rattle.vic_frame.proofs.BytesLaws.{holds_bits}
use Rattle.vic_frame.specs.Requests.{byte_count}
use Rattle.vic_text.specs.Digits.{hex_bytes, value_text}
use Rattle.vic_text.specs.Values.{number_in, number_ending, hex_decoded, hex_number_in, value_in}
use Rattle.vic_text.proofs.HexBack.{hex_back}

pub same : (v w : List ℕ) → bytes_eq v w ≡ true → v ≡ w
same v w h = (bytes_eq-Decides v w).0 h

pub if_some : {A : Type 0} (b : Bool) (x : Option A) (y : A) → (if b then x else None) ≡ Some y → (b ≡ true) × (x ≡ Some y)
if_some true x y h = (refl, h)
if_some false x y h = absurd (cc h)

-- ---- in decimal

pub number_found : (w : List ℕ) (n : ℕ) → n < 2 ^ 64 → w ≡ decimal n → number_in w ≡ Some n
number_found w n small e =
    let value : digits_value 10 w ≡ n = ap (digits_value 10) e ∙ (decimal_is_IsNumeral n small).1 in
    let fits : nat_lt n (2 ^ 64) ≡ true = lt-ltb n (2 ^ 64) small in
    let is : bytes_eq (decimal n) w ≡ true = (bytes_eq-Decides (decimal n) w).1 (sym e) in
    rw (value, fits, is) refl

pub number_text : (w : List ℕ) (n : ℕ) → number_in w ≡ Some n → (w ≡ decimal n) × (n < 2 ^ 64)
number_text w n h =
    let d = digits_value 10 w in
    let t = if_some (nat_lt d (2 ^ 64) && bytes_eq (decimal d) w) (Some d) n h in
    let p = and_parts (nat_lt d (2 ^ 64)) (bytes_eq (decimal d) w) t.0 in
    let is : d ≡ n = cc (t.1) in
    let small : d < 2 ^ 64 = ltb-true d (2 ^ 64) p.0 in
    (sym (same (decimal d) w p.1) ∙ ap decimal is, rw (sym is) small)

number_missing : (w : List ℕ) → ((n : ℕ) → n < 2 ^ 64 → w ≡ decimal n → ⊥) → number_in w ≡ None
number_missing w none = by_reading (number_in w) refl where
  by_reading : (r : Option ℕ) → number_in w ≡ r → r ≡ None
  by_reading None e = refl
  by_reading (Some n) e = let t = number_text w n e in absurd (none n t.1 t.0)

-- digits that aren't text are no number
pub number_not_text : (w : List ℕ) → (IsUtf8 w → ⊥) → number_in w ≡ None
number_not_text w other = number_missing w (λ n small e. other (subst IsUtf8 (sym e) (IsUtf8-from_ascii (decimal n) (IsAscii-decimal n small))))

-- none, if parsing returns none, or another one
pub number_refused : {E : Type 0} (w : List ℕ) (r : Result ℕ E) → ParsesUnsigned 64 10 w r → ((n : ℕ) → r ≡ Ok n → decimal n ≡ w → ⊥) → number_in w ≡ None
number_refused w r parsed none = number_missing w (λ n small e. none n (parse-decimal 64 n w r small small e parsed) (sym e))

-- ---- in hex

decoded_text : (count : ℕ) (w : List ℕ) (n : ℕ) (r : Result (List ℕ) FromHexError) → hex_decoded count w r ≡ Some n → w ≡ hex_bytes count n
decoded_text count w n (Ok bytes) h =
    let t = if_some (bytes_eq (hex_bytes count (number_ending bytes)) w) (Some (number_ending bytes)) n h in
    let is : number_ending bytes ≡ n = cc (t.1) in
    sym (same (hex_bytes count (number_ending bytes)) w t.0) ∙ ap (hex_bytes count) is
decoded_text count w n (Err e) h = cc

pub hex_text : (count : ℕ) (w : List ℕ) (n : ℕ) → hex_number_in count w ≡ Some n → w ≡ hex_bytes count n
hex_text count w n h = decoded_text count w n (decode_sized w count) h

-- what is written as one byte is one
one_byte : (bytes : List ℕ) → length bytes ≡ 1 → slice_index bytes 0 < 256 → number_ending bytes < 256
one_byte [] len small = omega (arith, len)
one_byte (b ∷ []) len small = omega (arith, small)
one_byte (b ∷ c ∷ bytes) len small = omega (arith, len)

by_decoded : (w : List ℕ) (n : ℕ) (r : Result (List ℕ) FromHexError) → decode_sized w 1 ≡ r → hex_decoded 1 w r ≡ Some n → n < 256
by_decoded w n (Ok bytes) e h =
    let len = decode_sized-ok w 1 bytes e in
    let ok = decode_of-ok w bytes (sym (decode_sized-twice w 1 len) ∙ e) in
    let small = one_byte bytes (omega (arith, len, ok.2)) (ok.3 0) in
    let t = if_some (bytes_eq (hex_bytes 1 (number_ending bytes)) w) (Some (number_ending bytes)) n h in
    let is : number_ending bytes ≡ n = cc (t.1) in
    omega (arith, small, is)
by_decoded w n (Err f) e h = cc h

pub byte_below : (w : List ℕ) (n : ℕ) → hex_number_in 1 w ≡ Some n → n < 256
byte_below w n h = by_decoded w n (decode_sized w 1) refl h

-- ---- of masks

pub value_text_of : (len : ℕ) (w : List ℕ) (value : ℕ) → value_in len w ≡ Some value → w ≡ value_text (record { len = len; value = value })
value_text_of len w value h = grind (arith, same, hex_text)

pub value_back : (len value : ℕ) → len ≤ 64 → value < 2 ^ len → value_in len (value_text (record { len = len; value = value })) ≡ Some value
value_back zero value h small = let none : value ≡ 0 = omega (arith, small) in rw none refl
value_back (suc len) value h small =
    let some : (suc len == 0) ≡ false = ne_eqb (suc len) 0 (λ e. omega (arith, e)) in
    rw some (hex_back (byte_count (suc len)) value (omega (arith, h)) (holds_bits (suc len) value small))
