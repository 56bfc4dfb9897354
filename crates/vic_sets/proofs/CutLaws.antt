-- Masks cut from masks, and flipped ones.
use Rattle.vic_sets.proofs.Words.{◌≡◌, ℕ, ◌+◌, ◌-◌, ◌*◌, ◌/◌, ◌^◌, ◌%◌, ◌<◌, ◌≤◌, inl, inr, sym, ap, ◌∙◌, arith, Bool, true, false, not, cond, ◌&&◌, ◌||◌, ◌==◌, pow_pos, mod-eq_of_lt, nat_tests, mod_below, cases_eq, BitMask, IsMask, lies_in, mod_mod_pow, cut_at, mod_pow_more, same_from_place, holds, flipped}

-- x and y have the bits b and c above their rests r and s
same_top : (x b r y c s t : ℕ) → r < t → s < t → x ≡ b * t + r → y ≡ c * t + s → (x == y) ≡ ((r == s) && (b == c))
same_top x b r y c s t h k e f = grind (arith, nat_tests, same_from_place b r c s t h k)

pub cut_more : (m : BitMask) (l u : ℕ) → lies_in (cut_at (l + 1) m) u ≡ (lies_in (cut_at l m) u && (u / 2 ^ l % 2 == m.value / 2 ^ l % 2))
cut_more m l u = same_top (u % 2 ^ (l + 1)) (u / 2 ^ l % 2) (u % 2 ^ l) (m.value % 2 ^ (l + 1)) (m.value / 2 ^ l % 2) (m.value % 2 ^ l) (2 ^ l)
    (mod_below u (2 ^ l) (pow_pos l)) (mod_below m.value (2 ^ l) (pow_pos l)) (mod_pow_more u l) (mod_pow_more m.value l)

other_bit : (b c s t : ℕ) → b < 2 → c < 2 → (s + cond (c == 0) t 0 ≡ (1 - c) * t + s) × ((b == 1 - c) ≡ not (b == c))
other_bit b c s t p q = elim (cases_eq c 0) [
  | inl z ↦ rw z (omega arith, grind (arith, nat_tests))
  | inr nz ↦ let one : c ≡ 1 = omega arith in rw one (omega arith, grind (arith, nat_tests))
]

pub flipped_is : (m : BitMask) (l u : ℕ) → lies_in (flipped l m) u ≡ (lies_in (cut_at l m) u && not (u / 2 ^ l % 2 == m.value / 2 ^ l % 2))
flipped_is m l u =
    let other = other_bit (u / 2 ^ l % 2) (m.value / 2 ^ l % 2) (m.value % 2 ^ l) (2 ^ l) (mod_below (u / 2 ^ l) 2 (omega arith)) (mod_below (m.value / 2 ^ l) 2 (omega arith)) in
    same_top (u % 2 ^ (l + 1)) (u / 2 ^ l % 2) (u % 2 ^ l) _ (1 - m.value / 2 ^ l % 2) (m.value % 2 ^ l) (2 ^ l) (mod_below u (2 ^ l) (pow_pos l)) (mod_below m.value (2 ^ l) (pow_pos l)) (mod_pow_more u l) other.0
    ∙ ap (λ b. lies_in (cut_at l m) u && b) other.1

-- one mask more: x the masks before, a what is cut, l what is kept so far, b the next bit
pub one_more : (x a l b : Bool) → (l ≡ true → a ≡ true) → ((x || (a && not l)) || (l && not b)) ≡ (x || (a && not (l && b)))
one_more x a l b h = grind (arith, nat_tests)

pub cut_less : (m : BitMask) (k l u : ℕ) → k ≤ l → lies_in (cut_at l m) u ≡ true → lies_in (cut_at k m) u ≡ true
cut_less m k l u le h = grind (arith, nat_tests, mod_mod_pow u k l le, mod_mod_pow m.value k l le)

-- a mask that is cut nowhere
pub cut_self : (m : BitMask) → IsMask m → cut_at m.len m ≡ m
cut_self m h = ap (λ (v : ℕ). record { len = m.len; value = v }) (mod-eq_of_lt h.1)

-- a mask without its last bit is the mask and the flipped one
pub cut_parted : (m : BitMask) (u : ℕ) → IsMask m → 0 < m.len → lies_in (cut_at (m.len - 1) m) u ≡ (lies_in m u || lies_in (flipped (m.len - 1) m) u)
cut_parted m u h pos =
    let l : ℕ = m.len - 1 in
    let e : l + 1 ≡ m.len = omega arith in
    let whole : lies_in m u ≡ lies_in (cut_at (l + 1) m) u = ap (λ x. lies_in x u) (sym (cut_self m h)) ∙ ap (λ n. lies_in (cut_at n m) u) (sym e) in
    bits _ _ _ _ (whole ∙ cut_more m l u) (flipped_is m l u)
  where
    bits : (c w x b : Bool) → w ≡ (c && b) → x ≡ (c && not b) → c ≡ (w || x)
    bits c w x b p q = grind (arith, nat_tests)

-- a UID in the inner of two masks is in both
pub held_both : (o i : BitMask) (u : ℕ) → holds o i ≡ true → lies_in i u ≡ (lies_in o u && lies_in i u)
held_both o i u h = grind (arith, nat_tests, mod_mod_pow u o.len i.len)

-- of two masks that have a UID in common one holds the other
pub none_shared : (a b : BitMask) (u : ℕ) → holds a b ≡ false → holds b a ≡ false → (lies_in a u && lies_in b u) ≡ false
none_shared a b u h k = grind (arith, nat_tests, mod_mod_pow u a.len b.len, mod_mod_pow u b.len a.len)
