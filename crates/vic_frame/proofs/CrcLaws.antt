-- Eight bits in one step.
use Rattle.vic_frame.proofs.Words.{◌≡◌, ℕ, zero, suc, ◌+◌, ◌*◌, ◌/◌, ◌^◌, ◌%◌, ◌<◌, ◌≤◌, ◌==◌, List, [], ◌∷◌, ◌++◌, length, get_or, drop, add-one, drop-cons, refl, sym, ap, ◌∙◌, arith, bit_xor, if◌then◌else◌, mul_assoc, pow_pos, xor_comm, xor_lt, xor_shr, xor_mod, shr_split, mod_below, drop_all, bits}
use lib.Bits.{xor_assoc, xor_shifted, xor_zero_r}
use Rattle.vic_frame.specs.Bytes.{bits_of}
use Rattle.vic_frame.specs.Crc.{step, after_bits}

-- the register after a bit 0
abbrev pub shift : ℕ → ℕ
shift r = bit_xor (r / 2) (r % 2 * 0x8408)

unfoldable pub shifts : ℕ → ℕ → ℕ
shifts zero r = r
shifts (suc k) r = shifts k (shift r)

-- the second and the third change places
swap_last : (a b c : ℕ) → bit_xor (bit_xor a b) c ≡ bit_xor (bit_xor a c) b
swap_last a b c = xor_assoc a b c ∙ ap (bit_xor a) (xor_comm b c) ∙ sym (xor_assoc a c b)

-- (a + b) + (c + d) = (a + c) + (b + d), for exclusive or
swap_xor : (a b c d : ℕ) → bit_xor (bit_xor a b) (bit_xor c d) ≡ bit_xor (bit_xor a c) (bit_xor b d)
swap_xor a b c d = sym (xor_assoc (bit_xor a b) c d) ∙ ap (λ x. bit_xor x d) (swap_last a b c) ∙ xor_assoc (bit_xor a c) b d

times_xor : (p q : ℕ) → p < 2 → q < 2 → bit_xor p q * 0x8408 ≡ bit_xor (p * 0x8408) (q * 0x8408)
times_xor (suc (suc p)) q hp hq = absurd (omega arith)
times_xor p (suc (suc q)) hp hq = absurd (omega arith)
times_xor p q hp hq = refl

pub shift-xor : (a b : ℕ) → shift (bit_xor a b) ≡ bit_xor (shift a) (shift b)
shift-xor a b =
    rw (xor_shr a b 1, xor_mod a b 1, times_xor (a % 2) (b % 2) (mod_below a 2 (omega arith)) (mod_below b 2 (omega arith)))
    (swap_xor (a / 2) (b / 2) (a % 2 * 0x8408) (b % 2 * 0x8408))

pub shifts-xor : (k a b : ℕ) → shifts k (bit_xor a b) ≡ bit_xor (shifts k a) (shifts k b)
unfolding shifts
shifts-xor zero a b = refl
shifts-xor (suc k) a b = ap (shifts k) (shift-xor a b) ∙ shifts-xor k (shift a) (shift b)

shift-double : (a : ℕ) → shift (a * 2) ≡ a
shift-double a =
    let half : a * 2 / 2 ≡ a = omega arith in
    let low : a * 2 % 2 ≡ 0 = omega arith in
    rw (half, low) (xor_zero_r a)

pub shifts-high : (k a : ℕ) → shifts k (a * 2 ^ k) ≡ a
unfolding shifts
shifts-high zero a = omega arith
shifts-high (suc k) a =
    let more : 2 ^ suc k ≡ 2 ^ k * 2 = omega arith in
    ap (λ p. shifts k (shift (a * p))) more ∙ ap (λ x. shifts k (shift x)) (sym (mul_assoc a (2 ^ k) 2)) ∙ ap (shifts k) (shift-double (a * 2 ^ k)) ∙ shifts-high k a

-- x is the bit that is fed back
chosen : (x h : ℕ) → x < 2 → (if x == 1 then bit_xor h 0x8408 else h) ≡ bit_xor h (x * 0x8408)
chosen zero h below = sym (xor_zero_r h)
chosen (suc zero) h below = refl
chosen (suc (suc x)) h below = absurd (omega arith)

-- the lowest of some bits is taken in, and the others wait one place lower
step-shift : (r b : ℕ) → bit_xor (step r (b % 2)) (b / 2) ≡ shift (bit_xor r b)
unfolding step
step-shift r b =
    let fed : ℕ = bit_xor (b % 2) (r % 2) in
    ap (λ x. bit_xor x (b / 2)) (chosen fed (r / 2) (xor_lt 1 (b % 2) (r % 2) (mod_below b 2 (omega arith)) (mod_below r 2 (omega arith))))
    ∙ rw (xor_shr r b 1, xor_mod r b 1, xor_comm (r % 2) (b % 2)) (swap_last (r / 2) (fed * 0x8408) (b / 2))

-- the low bits beside the others
parts_of : (k b : ℕ) → bit_xor (b / 2 ^ k * 2 ^ k) (b % 2 ^ k) ≡ b
parts_of k b = xor_shifted (b / 2 ^ k) k (b % 2 ^ k) (mod_below b (2 ^ k) (pow_pos k)) ∙ shr_split b k

pub after_bits-shifts : (k r b : ℕ) → b < 2 ^ k → after_bits r (bits_of k b) ≡ shifts k (bit_xor r b)
unfolding shifts after_bits bits_of
after_bits-shifts zero r b h = let none : b ≡ 0 = omega arith in sym (ap (bit_xor r) none ∙ xor_zero_r r)
after_bits-shifts (suc k) r b h = after_bits-shifts k (step r (b % 2)) (b / 2) (omega arith) ∙ ap (shifts k) (step-shift r b)

-- a complete byte
byte_step : (r b : ℕ) → b < 256 → after_bits r (bits_of 8 b) ≡ bit_xor (r / 256) (shifts 8 (bit_xor r b % 256))
byte_step r b h =
    let x : ℕ = bit_xor r b in
    let none : b / 256 ≡ 0 = omega arith in
    after_bits-shifts 8 r b h ∙ ap (shifts 8) (sym (parts_of 8 x))
    ∙ rw (shifts-xor 8 (x / 2 ^ 8 * 2 ^ 8) (x % 2 ^ 8), shifts-high 8 (x / 2 ^ 8), xor_shr r b 8, none, xor_zero_r (r / 256)) refl

-- bits 0 are shifted in
pub zero_steps : (k low : ℕ) → after_bits low (bits_of k 0) ≡ shifts k low
zero_steps k low = after_bits-shifts k low 0 (pow_pos k) ∙ ap (shifts k) (xor_zero_r low)

pub byte_by_low : (r b : ℕ) → b < 256 → bit_xor (r / 256) (after_bits (bit_xor r b % 256) (bits_of 8 0)) ≡ after_bits r (bits_of 8 b)
byte_by_low r b h = ap (bit_xor (r / 256)) (zero_steps 8 (bit_xor r b % 256)) ∙ sym (byte_step r b h)

pub shifts-add : (j k a : ℕ) → shifts (j + k) a ≡ shifts k (shifts j a)
unfolding shifts
shifts-add zero k a = let none : 0 + k ≡ k = omega arith in ap (λ n. shifts n a) none
shifts-add (suc j) k a = let more : suc j + k ≡ suc (j + k) = omega arith in ap (λ n. shifts n a) more ∙ shifts-add j k (shift a)

-- two complete bytes
pub two_bytes_by_low : (r a b : ℕ) → a < 256 → b < 256 → bit_xor (after_bits (bit_xor r a % 256) (bits_of 16 0)) (after_bits (bit_xor (r / 256) b) (bits_of 8 0)) ≡ after_bits (after_bits r (bits_of 8 a)) (bits_of 8 b)
two_bytes_by_low r a b ha hb =
    let low : ℕ = bit_xor r a % 256 in
    let high : ℕ = r / 256 in
    rw (zero_steps 16 low, shifts-add 8 8 low, zero_steps 8 (bit_xor high b), after_bits-shifts 8 (after_bits r (bits_of 8 a)) b hb, byte_step r a ha)
    (sym (shifts-xor 8 (shifts 8 low) (bit_xor high b)) ∙ ap (shifts 8) (sym (xor_assoc (shifts 8 low) high b) ∙ ap (λ x. bit_xor x b) (xor_comm (shifts 8 low) high)))

pub after_bits-append : (r : ℕ) (xs ys : List ℕ) → after_bits r (xs ++ ys) ≡ after_bits (after_bits r xs) ys
unfolding after_bits
after_bits-append r [] ys = refl
after_bits-append r (x ∷ xs) ys = after_bits-append (step r x) xs ys

pub after-next : (r : ℕ) (xs : List ℕ) (i : ℕ) → i < length xs → after_bits r (bits (drop i xs)) ≡ after_bits (after_bits r (bits_of 8 (get_or xs i 0))) (bits (drop (i + 1) xs))
after-next r xs i h = rw (add-one, drop-cons xs i 0) (after_bits-append r (bits_of 8 (get_or xs i 0)) (bits (drop (suc i) xs)))

pub after-end : (r : ℕ) (xs : List ℕ) (i : ℕ) → length xs ≤ i → after_bits r (bits (drop i xs)) ≡ r
unfolding after_bits
after-end r xs i h = rw (drop_all i xs h) refl
