-- What a node says depends on the low bits alone.
use Rattle.vic_sets.proofs.Words.{◌≡◌, ℕ, ◌+◌, ◌-◌, ◌*◌, ◌/◌, ◌^◌, ◌%◌, ◌<◌, ◌≤◌, refl, sym, ap, ◌∙◌, arith, true, eqb-true, eq-eqb, mod_below, BitMask, mod_mod_pow, Node, Fork', Full, Empty, open_at, height, IsWidest, IsWidestOf, AllOpen}
use Rattle.vic_sets.proofs.Bits.{low_and_rest}

-- the lowest bit and the rest of the low bits
halved : (u len v : ℕ) → 0 < len → u % 2 ^ len ≡ v → (u % 2 ≡ v % 2) × (u / 2 % 2 ^ (len - 1) ≡ v / 2)
halved u len v pos h =
    let e : len - 1 + 1 ≡ len = omega arith in
    let parts = rw e at (low_and_rest u (len - 1)) in
    let b = mod_below u 2 (omega arith) in
    (omega arith, omega arith)

open_at_low : (n : Node) (k u v : ℕ) → height n ≤ k → u % 2 ^ k ≡ v % 2 ^ k → open_at n u ≡ open_at n v
open_at_low Full k u v h e = refl
open_at_low Empty k u v h e = refl
open_at_low (Fork' p l r) k u v h e =
    let pos : 0 < k = omega arith in
    let a = halved u k (v % 2 ^ k) pos e in
    let b = halved v k (v % 2 ^ k) pos refl in
    let same : u / 2 % 2 ^ (k - 1) ≡ v / 2 % 2 ^ (k - 1) = a.1 ∙ sym b.1 in
    let bit : u % 2 ≡ v % 2 = a.0 ∙ sym b.0 in
    let left = open_at_low l (k - 1) (u / 2) (v / 2) (omega arith) same in
    let right = open_at_low r (k - 1) (u / 2) (v / 2) (omega arith) same in
    rw (bit, left, right) refl

-- the widest mask of a tree is the widest mask of its UIDs
pub widest_of_uids : (n : Node) (m : BitMask) → height n ≤ 56 → m.len ≤ 56 → IsWidestOf (open_at n) m → IsWidest (open_at n) m
widest_of_uids n m low short w = record {
  is_mask = (omega arith, w.fits);
  short = short;
  open_throughout = λ u is_uid inside. w.passes u (eqb-true _ _ inside);
  least = λ k is_mask k_short all. w.least k is_mask.1 (λ u inside. every k k_short all u inside);
} where
  every : (k : BitMask) → k.len ≤ 56 → AllOpen (open_at n) k → (u : ℕ) → u % 2 ^ k.len ≡ k.value → open_at n u ≡ true
  every k k_short all u inside =
      let uid : ℕ = 0xE0 * 2 ^ 56 + u % 2 ^ 56 in
      let b = mod_below u (2 ^ 56) (omega arith) in
      let same : u % 2 ^ 56 ≡ uid % 2 ^ 56 = omega arith in
      let there : uid % 2 ^ k.len ≡ k.value = sym (mod_mod_pow uid k.len 56 k_short) ∙ ap (λ x. x % 2 ^ k.len) (sym same) ∙ mod_mod_pow u k.len 56 k_short ∙ inside in
      open_at_low n 56 u uid low same ∙ all uid (omega arith, omega arith) (eq-eqb _ _ there)
