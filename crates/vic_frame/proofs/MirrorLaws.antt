-- Laws of the mirrored bits.
use Rattle.vic_frame.proofs.Words.{add-zero, ◌&&◌, ◌==◌, ◌≡◌, ℕ, ◌+◌, ◌-◌, ◌*◌, ◌/◌, ◌^◌, ◌%◌, ◌<◌, ◌≤◌, refl, sym, ap, ◌∙◌, arith, zero, suc, add-one, nat_le, pow-add, shr-shr, pow_pos, div-one, mod-eq_of_lt, mul-le-mul_right, nat_tests, pow-le-pow_right, IsUid, BitMask, IsMask, IsBlock, mirror, uid_of, mod-pow-add, field_of, shr_high, mod_low, mod-one, div-eq_of_lt, mul-mod_left, slot_of_sixteen, IsKey, mul-le, lies_in, is_in_block}
use Rattle.vic_frame.proofs.MaskLaws.{mod_mod_pow}
use Rattle.vic_frame.specs.LowBitsFirst.{mirror_bits}

pub mirror_below : (k n : ℕ) → mirror_bits k n < 2 ^ k
unfolding mirror_bits
mirror_below zero n = omega arith
mirror_below (suc k) n =
    let top = mul-le (n % 2) (2 ^ k) 1 (2 ^ k) (omega arith) (omega arith) in
    omega (arith, top, mirror_below k (n / 2))

-- the first k bits stand above the next j
pub mirror_split : (k j m n : ℕ) → m ≡ k + j → mirror_bits m n ≡ mirror_bits k n * 2 ^ j + mirror_bits j (n / 2 ^ k)
unfolding mirror_bits
mirror_split zero j m n e =
    let same : m ≡ j = omega arith in
    ap (λ (x : ℕ). mirror_bits x n) same ∙ ap (mirror_bits j) (sym (div-one n)) ∙ omega arith
mirror_split (suc k) j zero n e = absurd (omega arith)
mirror_split (suc k) j (suc m) n e =
    let f : m ≡ k + j = omega arith in
    let p : 2 ^ m ≡ 2 ^ k * 2 ^ j = ap (λ (x : ℕ). 2 ^ x) f ∙ pow-add 2 k j in
    let g : 1 + k ≡ suc k = omega arith in
    let h : n / 2 / 2 ^ k ≡ n / 2 ^ suc k = shr-shr n 1 k ∙ ap (λ (x : ℕ). n / 2 ^ x) g in
    rw (p, mirror_split k j m (n / 2) f, h) (omega arith)

pub mirror_mod : (k n : ℕ) → mirror_bits k (n % 2 ^ k) ≡ mirror_bits k n
unfolding mirror_bits
mirror_mod zero n = refl
mirror_mod (suc k) n =
    let b : n % 2 ^ suc k % 2 ≡ n % 2 = mod_mod_pow n 1 (suc k) (omega arith) in
    let h : n % 2 ^ suc k / 2 ≡ n / 2 % 2 ^ k = rw add-one at (field_of n k 1) in
    rw (b, h, mirror_mod k (n / 2)) refl

-- mirrored twice, a number's low bits are back
pub mirror_twice : (k n : ℕ) → mirror_bits k (mirror_bits k n) ≡ n % 2 ^ k
unfolding mirror_bits
mirror_twice zero n = sym (mod-one n)
mirror_twice (suc k) n =
    let r : ℕ = mirror_bits k (n / 2) in
    let m : ℕ = (n % 2) * 2 ^ k + r in
    let small : r < 2 ^ k = mirror_below k (n / 2) in
    let parts : mirror_bits (suc k) m ≡ mirror_bits k m * 2 + mirror_bits 1 (m / 2 ^ k) = mirror_split k 1 (suc k) m (omega arith) in
    let low : mirror_bits k m ≡ n / 2 % 2 ^ k = sym (mirror_mod k m) ∙ ap (mirror_bits k) (mod_low (n % 2) k r small) ∙ mirror_twice k (n / 2) in
    let high : m / 2 ^ k ≡ n % 2 = shr_high (n % 2) k r small in
    let whole : n % 2 ^ suc k ≡ (n / 2 % 2 ^ k) * 2 + n % 2 = rw add-one at (mod-pow-add n k 1) in
    parts ∙ ap (λ (x : ℕ). x * 2 + mirror_bits 1 (m / 2 ^ k)) low ∙ ap (λ (x : ℕ). (n / 2 % 2 ^ k) * 2 + mirror_bits 1 x) high ∙ omega (arith, whole)

pub mirror_none : (k : ℕ) → mirror_bits k 0 ≡ 0
unfolding mirror_bits
mirror_none zero = refl
mirror_none (suc k) = omega (arith, mirror_none k)

-- the byte that stands above i bytes, turned round behind them
pub turn-next : (i n : ℕ) → mirror_bits (8 * (i + 1)) n ≡ mirror_bits (8 * i) n * 256 + mirror_bits 8 (n / 2 ^ (8 * i) % 256)
turn-next i n =
    mirror_split (8 * i) 8 (8 * (i + 1)) n (omega arith)
    ∙ ap (λ (x : ℕ). mirror_bits (8 * i) n * 256 + x) (sym (mirror_mod 8 (n / 2 ^ (8 * i))))

pub rest-next : (i n : ℕ) → n / 2 ^ (8 * i) / 256 ≡ n / 2 ^ (8 * (i + 1))
rest-next i n = let e : 8 * i + 8 ≡ 8 * (i + 1) = omega arith in shr-shr n (8 * i) 8 ∙ ap (λ (x : ℕ). n / 2 ^ x) e

pub turned_below : (i n : ℕ) → i < 7 → mirror_bits (8 * i) n < 2 ^ 48
turned_below i n h =
    omega (arith, pow-le-pow_right {n = 2} (omega arith) {i = 8 * i} {j = 48} (omega arith), mirror_below (8 * i) n)

pub uid_of_mirror : (u : ℕ) → IsUid u → uid_of (mirror u) ≡ u
uid_of_mirror u h = let e : mirror_bits 56 (mirror_bits 56 u) ≡ u % 2 ^ 56 = mirror_twice 56 u in omega arith

pub mirror_of_uid : (k : ℕ) → IsKey k → mirror (uid_of k) ≡ k
mirror_of_uid k h =
    let e : mirror_bits 56 (mirror_bits 56 k) ≡ k % 2 ^ 56 = mirror_twice 56 k in
    let s : mirror_bits 56 k < 2 ^ 56 = mirror_below 56 k in
    let f : uid_of k % 2 ^ 56 ≡ mirror_bits 56 k = omega arith in
    sym (mirror_mod 56 (uid_of k)) ∙ ap (mirror_bits 56) f ∙ e ∙ mod-eq_of_lt h

pub same_test : (x y a b : ℕ) → (x ≡ y → a ≡ b) → (a ≡ b → x ≡ y) → (x == y) ≡ (a == b)
same_test x y a b f g = grind (arith, nat_tests)

span_test : (a b t r x y : ℕ) → r < t → x ≡ a * t + r → y ≡ b * t → (a == b) ≡ (nat_le y x && nat_le x (y + (t - 1)))
span_test a b t r x y h e f = plain (a * t) (b * t) (λ s. ap (λ (z : ℕ). z * t) s) (above a b) (above b a) e f where
  above : (a b : ℕ) → a < b → a * t + t ≤ b * t
  above a b h = let k : suc a * t ≤ b * t = mul-le-mul_right t h in omega arith

  plain : (p q : ℕ) → (a ≡ b → p ≡ q) → (a < b → p + t ≤ q) → (b < a → q + t ≤ p) → x ≡ p + r → y ≡ q → (a == b) ≡ (nat_le y x && nat_le x (y + (t - 1)))
  plain p q same less more e f = grind (arith, nat_tests)

-- a number of l bits, turned round
pub first_of : (l h m v : ℕ) → m ≡ l + h → v < 2 ^ l → mirror_bits m v ≡ mirror_bits l v * 2 ^ h
first_of l h m v e below = mirror_split l h m v e ∙ ap (λ (x : ℕ). mirror_bits l v * 2 ^ h + x) (ap (mirror_bits h) (div-eq_of_lt below) ∙ mirror_none h) ∙ add-zero (mirror_bits l v * 2 ^ h)

pub in_span : (l h v u : ℕ) → 56 ≡ l + h → v < 2 ^ l → (u % 2 ^ l == v) ≡ (nat_le (mirror v) (mirror u) && nat_le (mirror u) (mirror v + (2 ^ h - 1)))
in_span l h v u e below =
    let there = λ (s : u % 2 ^ l ≡ v). sym (mirror_mod l u) ∙ ap (mirror_bits l) s in
    let back = λ (s : mirror_bits l u ≡ mirror_bits l v). sym (mirror_twice l u) ∙ ap (mirror_bits l) s ∙ mirror_twice l v ∙ mod-eq_of_lt below in
    same_test (u % 2 ^ l) v (mirror_bits l u) (mirror_bits l v) there back
    ∙ span_test (mirror_bits l u) (mirror_bits l v) (2 ^ h) (mirror_bits h (u / 2 ^ l)) (mirror u) (mirror v) (mirror_below h (u / 2 ^ l)) (mirror_split l h 56 u e) (first_of l h 56 v e below)

-- ---- blocks of keys

-- the first key of a block, turned round, is the value of its mask
pub block_value : (l h k : ℕ) → 56 ≡ l + h → k % 2 ^ h ≡ 0 → mirror k < 2 ^ l
block_value l h k e aligned =
    let low : mirror_bits h k ≡ 0 = sym (mirror_mod h k) ∙ ap (mirror_bits h) aligned ∙ mirror_none h in
    let is : mirror k ≡ 0 * 2 ^ l + mirror_bits l (k / 2 ^ h) = mirror_split h l 56 k (omega arith) ∙ ap (λ (x : ℕ). x * 2 ^ l + mirror_bits l (k / 2 ^ h)) low in
    let below = mirror_below l (k / 2 ^ h) in
    omega arith

-- the keys of a mask are a block
pub first_is_block : (m : BitMask) → IsMask m → m.len ≤ 56 → IsBlock (mirror m.value) m.len
first_is_block m is_mask short =
    let h : ℕ = 56 - m.len in
    let n : ℕ = mirror_bits m.len m.value in
    let whole : 56 ≡ m.len + h = omega arith in
    let first : mirror m.value ≡ n * 2 ^ h = first_of m.len h 56 m.value whole is_mask.1 in
    let below : n < 2 ^ m.len = mirror_below m.len m.value in
    let ends : suc n * 2 ^ h ≤ 2 ^ m.len * 2 ^ h = mul-le-mul_right (2 ^ h) below in
    let all : 2 ^ 56 ≡ 2 ^ m.len * 2 ^ h = ap (λ (x : ℕ). 2 ^ x) whole ∙ pow-add 2 m.len h in
    record {
      short = short;
      keys = omega (arith, first, ends, all, pow_pos h);
      aligned = ap (λ (x : ℕ). x % 2 ^ h) first ∙ mul-mod_left n (2 ^ h);
    }

-- a block by its first key and its bits, and what lies in it
pub block_of : (m : BitMask) (first len : ℕ) → IsMask m → m.len ≤ 56 → first ≡ mirror m.value → len ≡ m.len → IsBlock first len × ((u : ℕ) → lies_in m u ≡ is_in_block first len (mirror u))
block_of m first len is_mask short at_first same = rw (at_first, same) (first_is_block m is_mask short, λ u. in_span m.len (56 - m.len) m.value u (omega arith) is_mask.1)

-- ---- the keys of slots

-- what stands above l bits is turned round behind them
pub mirror_of_slot : (l v k : ℕ) → l + 4 ≤ 56 → v < 2 ^ l → k ≤ 15 → mirror (v + k * 2 ^ l) ≡ mirror v + mirror_bits 4 k * 2 ^ (56 - (l + 4))
mirror_of_slot l v k short below few =
    let h : ℕ = 56 - l in
    let whole : 56 ≡ l + h = omega arith in
    let n : ℕ = k * 2 ^ l + v in
    let swap : v + k * 2 ^ l ≡ n = omega arith in
    let low : mirror_bits l n ≡ mirror_bits l v = sym (mirror_mod l n) ∙ ap (mirror_bits l) (mod_low k l v below) in
    ap mirror swap
    ∙ mirror_split l h 56 n whole
    ∙ ap (λ (x : ℕ). x * 2 ^ h + mirror_bits h (n / 2 ^ l)) low
    ∙ ap (λ (x : ℕ). mirror_bits l v * 2 ^ h + mirror_bits h x) (shr_high k l v below)
    ∙ cc (first_of l h 56 v whole below, first_of 4 (56 - (l + 4)) h k (omega arith) (omega arith))

pub slot_is_mask : (m : BitMask) (k : ℕ) → IsMask m → m.len + 4 ≤ 56 → k ≤ 15 → IsMask (slot_of_sixteen m k)
slot_is_mask m k is_mask short few =
    (omega arith, omega (arith, is_mask.1, mul-le k (2 ^ m.len) 15 (2 ^ m.len) few (omega arith), pow-add 2 m.len 4))
