-- Numbers and their bytes, and tables by a byte.
use Rattle.vic_frame.proofs.Words.{get_or-take, ◌≡◌, ℕ, zero, suc, ◌+◌, ◌*◌, ◌/◌, ◌^◌, ◌%◌, ◌<◌, ◌≤◌, List, [], ◌∷◌, ◌++◌, length, get_or, map, take, drop, refl, sym, ap, ◌∙◌, arith, append_assoc, append-nil, get_or-drop, length-take, pow-add, pow-le-pow_right, number_of, AreBytes, get_or_past, get_or-map-range_with_len, range_with_len}
use Rattle.vic_frame.specs.Bytes.{bytes_of}

pub length_bytes_of : (count n : ℕ) → length (bytes_of count n) ≡ count
unfolding bytes_of
length_bytes_of zero n = refl
length_bytes_of (suc count) n = ap suc (length_bytes_of count (n / 256))

-- the bytes of a number have that number
pub number_of-bytes_of : (count n : ℕ) → n < 256 ^ count → number_of (bytes_of count n) ≡ n
unfolding bytes_of
number_of-bytes_of zero n h = omega arith
number_of-bytes_of (suc count) n h = omega (arith, number_of-bytes_of count (n / 256) (omega arith))

-- and the number of bytes has those bytes
pub bytes_of-number_of : (xs : List ℕ) → AreBytes xs → bytes_of (length xs) (number_of xs) ≡ xs
unfolding bytes_of
bytes_of-number_of [] h = refl
bytes_of-number_of (x ∷ xs) h =
    let low : x < 256 = h 0 in
    let head : (x + 256 * number_of xs) % 256 ≡ x = omega arith in
    let rest : (x + 256 * number_of xs) / 256 ≡ number_of xs = omega arith in
    rw (head, rest) (ap (λ ys. x ∷ ys) (bytes_of-number_of xs (λ i. h (suc i))))

pub number_below : (xs : List ℕ) → AreBytes xs → number_of xs < 256 ^ length xs
number_below [] h = omega arith
number_below (x ∷ xs) h =
    let all : x + 256 * number_of xs < 256 ^ suc (length xs) = omega (arith, h 0, number_below xs (λ i. h (suc i))) in
    all

pub number_within : (most : ℕ) (xs : List ℕ) → AreBytes xs → length xs ≤ most → number_of xs < 256 ^ most
number_within most xs h short =
    omega (arith, number_below xs h, pow-le-pow_right {n = 256} (omega arith) {i = length xs} {j = most} short)

pub AreBytes-drop : (n : ℕ) (xs : List ℕ) → AreBytes xs → AreBytes (drop n xs)
AreBytes-drop n xs h i = rw (get_or-drop n xs i 0) (h (n + i))

pub AreBytes-take : (n : ℕ) (xs : List ℕ) → AreBytes xs → AreBytes (take n xs)
AreBytes-take n xs h i = grind (arith, h i, get_or-take n xs i 0, get_or_past (take n xs) i 0, length-take n xs)

-- one byte more
pub bytes_of-push : (out : List ℕ) (k j n : ℕ) → k ≡ suc j → (out ++ n % 256 ∷ []) ++ bytes_of j (n / 256) ≡ out ++ bytes_of k n
unfolding bytes_of
bytes_of-push out k j n e = rw (e, append_assoc) refl

pub bytes_of-end : (out : List ℕ) (k n : ℕ) → k ≡ 0 → out ++ bytes_of k n ≡ out
unfolding bytes_of
bytes_of-end out k n e = rw (e, append-nil) refl

-- so many bytes of a list, and their number
pub bytes_of-take : (k : ℕ) (xs : List ℕ) → AreBytes xs → k ≤ length xs → bytes_of k (number_of (take k xs)) ≡ take k xs
bytes_of-take k xs h long =
    let len : length (take k xs) ≡ k = omega (arith, length-take k xs) in
    ap (λ j. bytes_of j (number_of (take k xs))) (sym len) ∙ bytes_of-number_of (take k xs) (AreBytes-take k xs h)

pow_bytes : (k : ℕ) → 2 ^ (8 * k) ≡ 256 ^ k
pow_bytes zero = refl
pow_bytes (suc k) =
    let split : 8 * suc k ≡ 8 + 8 * k = omega arith in
    ap (λ n. 2 ^ n) split ∙ omega (arith, pow-add 2 8 (8 * k), pow_bytes k)

-- the least number of bytes for so many bits holds them
pub holds_bits : (bits n : ℕ) → n < 2 ^ bits → n < 256 ^ ((bits + 7) / 8)
holds_bits bits n h =
    omega (arith, pow-le-pow_right {n = 2} (omega arith) {i = bits} {j = 8 * ((bits + 7) / 8)} (omega arith), pow_bytes ((bits + 7) / 8))

-- an entry of a table of a function's values
pub table_to : (f : ℕ → ℕ) (n i : ℕ) → i < n → get_or (map f (range_with_len 0 n)) i 0 ≡ f i
table_to f n i h = get_or-map-range_with_len f 0 n i i 0 h (omega arith)
