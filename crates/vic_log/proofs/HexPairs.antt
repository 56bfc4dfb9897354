-- Pairs of hex digits, place by place.
use Rattle.vic_log.proofs.Words.{◌≡◌, ℕ, suc, ◌+◌, ◌*◌, ◌<◌, ◌≤◌, List, [], ◌∷◌, length, get_or, Option, Some, None, Result, Ok, Err, IsErr, refl, ap, sym, ◌∙◌, arith, nat_tests, hex_digit_value, digit_or_error, pair_value, ◌>>=◌, FromHexError, decode_pairs-ok, cons_byte, decode_pairs-ok_pair, is_some, unwrap_or, digit_or_255, SpellsByte}
use Rattle.hex.specs.Hex.{decode_pairs}
use Rattle.std.specs.Prelude.{true}

value_of : (o : Option ℕ) → unwrap_or o 255 ≤ 15 → o ≡ Some (unwrap_or o 255)
value_of None h = absurd (omega arith)
value_of (Some v) h = refl

pub both : (a b i h l : ℕ) (o p : Option ℕ) → o ≡ Some h → p ≡ Some l → (digit_or_error a i o >>= (λ x. digit_or_error b (i + 1) p >>= (λ y. Ok (x * 16 + y)))) ≡ Ok (h * 16 + l)
both a b i h l o p e f = rw (e, f) refl

pair_is : (i a b v : ℕ) → SpellsByte a b v → pair_value a b i ≡ Ok v
pair_is i a b v s =
    both a b i (digit_or_255 a) (digit_or_255 b) (hex_digit_value a) (hex_digit_value b) (value_of (hex_digit_value a) s.is_high) (value_of (hex_digit_value b) s.is_low) ∙ ap Ok (sym s.byte_is)

-- digits that spell each byte of a list are decoded to it
pub spelled : (s out : List ℕ) (i : ℕ) → length s ≡ 2 * length out
    → ((k : ℕ) → k < length out → SpellsByte (get_or s (2 * k) 0) (get_or s (2 * k + 1) 0) (get_or out k 0)) → decode_pairs i s ≡ Ok out
unfolding decode_pairs
spelled [] [] i len h = refl
spelled (a ∷ s) [] i len h = absurd (omega arith)
spelled [] (v ∷ out) i len h = absurd (omega arith)
spelled (a ∷ []) (v ∷ out) i len h = absurd (omega arith)
spelled (a ∷ b ∷ s) (v ∷ out) i len h =
    decode_pairs-ok_pair i a b v s (pair_is i a b v (h 0 (omega arith)))
    ∙ ap (cons_byte v) (spelled s out (i + 2) (omega arith) (λ k lt.
    let low : 2 * suc k + 1 ≡ suc (suc (2 * k + 1)) = omega arith in
    let high : 2 * suc k ≡ suc (suc (2 * k)) = omega arith in
    rw (low, high) at (h (suc k) (omega arith))))

few : (c : ℕ) → is_some (hex_digit_value c) ≡ true → digit_or_255 c < 16
few c t = grind (arith, nat_tests)

-- one that is no hex digit, whose value is above 15
pub no_digit : (s : List ℕ) (p : ℕ) → p < length s → 16 ≤ digit_or_255 (get_or s p 0) → IsErr (decode_pairs 0 s)
no_digit s p lt large = by_result (decode_pairs 0 s) refl where
  by_result : (r : Result (List ℕ) FromHexError) → decode_pairs 0 s ≡ r → IsErr r
  by_result (Err e) h = refl
  by_result (Ok bytes) h = let small = few (get_or s p 0) ((decode_pairs-ok 0 s bytes h).0 p 0 lt) in absurd (omega arith)
