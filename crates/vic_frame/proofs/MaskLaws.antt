-- Laws on masks.
use Rattle.vic_frame.proofs.Words.{true, false, ◌==◌, ◌≡◌, ℕ, ◌+◌, ◌-◌, ◌*◌, ◌/◌, ◌^◌, ◌%◌, ◌<◌, ◌≤◌, inl, inr, sym, ap, ◌∙◌, arith, zero, suc, add_comm, mul_assoc, pow_pos, pow-add, pow-le-pow_right, nat_tests, BitMask, IsMask, lies_in, IsUid, mul-add-mod_self_right, mod-le, mod-pow-add, mod_low, mod_below, cases_eq, LiesIn}
use lib.Pow.{mod-mod-pow}
use Rattle.vic_frame.specs.Uids.{uid_from_low_bits}
use Rattle.vic_frame.specs.MaskLaws.{NestedOrApart, IsParted}

-- the low bits of the low bits
pub mod_mod_pow : (u m n : ℕ) → m ≤ n → u % 2 ^ n % 2 ^ m ≡ u % 2 ^ m
mod_mod_pow u m n le = let is : n - m + m ≡ n = omega arith in rw is at (mod-mod-pow u (n - m) m)

-- one bit more
pub mod_pow_more : (u l : ℕ) → u % 2 ^ (l + 1) ≡ (u / 2 ^ l % 2) * 2 ^ l + u % 2 ^ l
mod_pow_more u l = let e : u % 2 ^ (1 + l) ≡ (u / 2 ^ l % 2 ^ 1) * 2 ^ l + u % 2 ^ l = mod-pow-add u 1 l in rw add_comm at e

pub nested_or_apart_lem : (m n : BitMask) → IsMask m → IsMask n → m.len ≤ n.len → NestedOrApart m n
nested_or_apart_lem m n p q le = elim (cases_eq (n.value % 2 ^ m.len) m.value) [
  | inl same ↦ inl (λ u h. sym (mod_mod_pow u m.len n.len le) ∙ ap (λ x. x % 2 ^ m.len) h ∙ same)
  | inr other ↦ inr (λ u h k. other (sym (ap (λ x. x % 2 ^ m.len) k) ∙ mod_mod_pow u m.len n.len le ∙ h))
]

-- by the bit b above the low ones
parts : (m : BitMask) (u b : ℕ) → b < 2 → u % 2 ^ m.len < 2 ^ m.len → m.value < 2 ^ m.len → u % 2 ^ (m.len + 1) ≡ b * 2 ^ m.len + u % 2 ^ m.len → IsParted m u
parts m u zero p q h e = record { covers = λ k. inl (omega arith); lower = λ k. omega arith; upper = λ k. absurd (omega arith); apart = λ k l. omega arith }
parts m u (suc zero) p q h e = record { covers = λ k. inr (omega arith); lower = λ k. absurd (omega arith); upper = λ k. omega arith; apart = λ k l. omega arith }
parts m u (suc (suc b)) p q h e = absurd (omega arith)

pub parted : (m : BitMask) (u : ℕ) → IsMask m → IsParted m u
parted m u p =
    parts m u (u / 2 ^ m.len % 2) (mod_below (u / 2 ^ m.len) 2 (omega arith)) (mod_below u (2 ^ m.len) (pow_pos m.len)) p.1 (mod_pow_more u m.len)

-- the one UID that a long mask can hold
abbrev pub only_uid : ℕ → ℕ
only_uid value = uid_from_low_bits (value % 2 ^ 56)

pub is_only : (m : BitMask) (u : ℕ) → 56 ≤ m.len → IsUid u → u % 2 ^ m.len ≡ m.value → u ≡ only_uid m.value
is_only m u long is_uid e =
    let f : m.value % 2 ^ 56 ≡ u % 2 ^ 56 = sym (ap (λ x. x % 2 ^ 56) e) ∙ mod_mod_pow u 56 m.len long in
    omega arith

low_of_only : (u v : ℕ) → IsUid u → (u % 2 ^ 56 == v % 2 ^ 56) ≡ (u == only_uid v)
low_of_only u v h = grind (arith, nat_tests)

pub long_none : (m : BitMask) (u : ℕ) → 56 ≤ m.len → IsUid u → lies_in m (only_uid m.value) ≡ false → lies_in m u ≡ false
long_none m u long is_uid none = grind (arith, nat_tests, is_only m u long is_uid)

pub long_same : (m : BitMask) (u : ℕ) → 56 ≤ m.len → IsUid u → lies_in m (only_uid m.value) ≡ true → (u % 2 ^ 56 == m.value % 2 ^ 56) ≡ lies_in m u
long_same m u long is_uid some = low_of_only u m.value is_uid ∙ grind (arith, nat_tests, is_only m u long is_uid)

-- E0 and seven bytes 0 is a multiple of any power of two up to 2 ^ 56
top_is : (len : ℕ) → len ≤ 56 → 0xE0 * 2 ^ 56 ≡ 0xE0 * 2 ^ (56 - len) * 2 ^ len
top_is len short =
    let j : ℕ = 56 - len in
    let is : j + len ≡ 56 = omega arith in
    let whole : 2 ^ 56 ≡ 2 ^ j * 2 ^ len = rw is at (pow-add 2 j len) in
    ap (λ x. 0xE0 * x) whole ∙ sym (mul_assoc 0xE0 (2 ^ j) (2 ^ len))

pub least_inside : (m : BitMask) → IsMask m → m.len ≤ 56 → LiesIn m (uid_from_low_bits m.value)
least_inside m p short = ap (λ x. (x + m.value) % 2 ^ m.len) (top_is m.len short) ∙ mod_low (0xE0 * 2 ^ (56 - m.len)) m.len m.value p.1

pub least_is_uid : (m : BitMask) → IsMask m → m.len ≤ 56 → IsUid (uid_from_low_bits m.value)
least_is_uid m p short =
    let below : 2 ^ m.len ≤ 2 ^ 56 = pow-le-pow_right (omega arith) short in
    omega (arith, below, p.1)

-- a UID in the mask is at least its value above E0 and seven bytes 0
pub least_first : (m : BitMask) (u : ℕ) → m.len ≤ 56 → IsUid u → LiesIn m u → uid_from_low_bits m.value ≤ u
least_first m u short is_uid inside =
    let d : ℕ = u - 0xE0 * 2 ^ 56 in
    let split : u ≡ 0xE0 * 2 ^ 56 + d = omega (arith, is_uid) in
    let low : u % 2 ^ m.len ≡ d % 2 ^ m.len = ap (λ x. x % 2 ^ m.len) (split ∙ ap (λ x. x + d) (top_is m.len short)) ∙ mul-add-mod_self_right (0xE0 * 2 ^ (56 - m.len)) (2 ^ m.len) d in
    let most : d % 2 ^ m.len ≤ d = mod-le d (2 ^ m.len) in
    omega (arith, split, low, most, inside)

-- a mask of at most 56 bits holds the UID whose other bits below E0 are 0
pub short_holds : (m : BitMask) → IsMask m → m.len ≤ 56 → (u : ℕ) × IsUid u × LiesIn m u
short_holds m p short = (uid_from_low_bits m.value, least_is_uid m p short, least_inside m p short)
