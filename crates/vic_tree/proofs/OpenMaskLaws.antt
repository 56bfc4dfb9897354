-- The open masks of a set are apart, and hold all of it.
use Rattle.vic_tree.proofs.Words.{◌≡◌, ℕ, zero, suc, ◌+◌, ◌-◌, ◌*◌, ◌^◌, ◌%◌, ◌<◌, ◌≤◌, ◌||◌, ◌⊎◌, inl, inr, Bool, true, false, not, List, refl, sym, ap, subst, ◌∙◌, arith, eq-eqb, eqb-true, pow_pos, below_more, list_any, list_any_at, IsUid, BitMask, lies_in, IsOpenMask, parent, AllOpen, SameUids, nat_tests, All-contains, Any-from_list_any, or_parts, cases_Bool, not-false, mod_mod_pow, AreAll}
use Rattle.vic_tree.proofs.BoolLaws.{same_tests}
use Rattle.vic_tree.proofs.FirstMasks.{same_mask}

inside : (m : BitMask) (u : ℕ) → lies_in m u ≡ true → u % 2 ^ m.len ≡ m.value
inside m u h = eqb-true (u % 2 ^ m.len) m.value h

-- of two masks that hold a UID the shorter holds the parent of the other
in_longer : (m n : BitMask) (u v : ℕ) → m.len < n.len → lies_in m u ≡ true → lies_in n u ≡ true → lies_in (parent n) v ≡ true → lies_in m v ≡ true
in_longer m n u v lt i j there = grind (arith, nat_tests, mod_mod_pow u (n.len - 1) n.len, mod_mod_pow v m.len (n.len - 1), mod_mod_pow u m.len (n.len - 1))

-- so the other isn't a maximal one
under_parent : (set : ℕ → Bool) (m n : BitMask) (u : ℕ) → IsOpenMask set m → IsOpenMask set n → lies_in m u ≡ true → lies_in n u ≡ true → m.len < n.len → ⊥
under_parent set m n u g h i j lt = elim h.maximal [
  | inl z ↦ omega arith
  | inr out ↦ out (λ v is_uid there. g.open_throughout v is_uid (in_longer m n u v lt i j there))
]

pub apart : (set : ℕ → Bool) (m n : BitMask) (u : ℕ) → IsOpenMask set m → IsOpenMask set n → lies_in m u ≡ true → lies_in n u ≡ true → m ≡ n
apart set m n u g h i j =
    let len : m.len ≡ n.len = omega (arith, under_parent set m n u g h i j, under_parent set n m u h g j i) in
    same_mask m n len (sym (inside m u i) ∙ ap (λ (l : ℕ). u % 2 ^ l) len ∙ inside n u j)

-- all numbers below a bound pass a test, or one fails
all_or_one : (q : ℕ → Bool) (n : ℕ) → ((k : ℕ) → k < n → q k ≡ true) ⊎ ((k : ℕ) × (k < n) × (q k ≡ false))
all_or_one q zero = inl (λ k lt. absurd (omega arith))
all_or_one q (suc n) = elim (all_or_one q n) [
  | inr f ↦ inr (f.0, omega (arith, f.1), f.2)
  | inl all ↦ elim (cases_Bool (q n)) [
    | inl e ↦ inl (λ k lt. below_more (λ k. q k ≡ true) n all e k (omega arith))
    | inr e ↦ inr (n, omega arith, e)
  ]
]

-- a mask lies entirely in the set, or doesn't
all_open_or_not : (set : ℕ → Bool) (m : BitMask) (n : ℕ) → n ≡ 2 ^ 56 → AllOpen set m ⊎ ¬ (AllOpen set m)
all_open_or_not set m n size = elim (all_or_one (λ k. not (lies_in m (0xE0 * 2 ^ 56 + k)) || set (0xE0 * 2 ^ 56 + k)) n) [
  | inl all ↦ inl (λ u is_uid i.
      let back : 0xE0 * 2 ^ 56 + (u - 0xE0 * 2 ^ 56) ≡ u = omega (arith, is_uid.0) in
      let t = rw back at (all (u - 0xE0 * 2 ^ 56) (omega (arith, is_uid.0, is_uid.1))) in
      grind (arith, nat_tests))
  | inr f ↦ inr (λ all.
      let w = or_parts (not (lies_in m (0xE0 * 2 ^ 56 + f.0))) (set (0xE0 * 2 ^ 56 + f.0)) f.2 in
      let s = all (0xE0 * 2 ^ 56 + f.0) (omega arith, omega (arith, f.1)) (not-false _ w.0) in
      cc (s, w.1))
]

-- the mask of a UID's low bits
abbrev low : ℕ → ℕ → BitMask
low l u = record { len = l; value = u % 2 ^ l }

open_above : (set : ℕ → Bool) (u l : ℕ) → l ≤ 56 → AllOpen set (low l u) → (m : BitMask) × IsOpenMask set m × (lies_in m u ≡ true)
open_above set u zero h all = (low 0 u, record { is_mask = (omega arith, omega arith); short = omega arith; open_throughout = all; maximal = inl refl }, eq-eqb (u % 2 ^ 0) (u % 2 ^ 0) refl)
open_above set u (suc l) h all =
    let back : suc l - 1 ≡ l = omega arith in
    let less : suc l - 1 ≤ suc l = omega arith in
    let up : parent (low (suc l) u) ≡ low l u = same_mask (parent (low (suc l) u)) (low l u) back (mod_mod_pow u (suc l - 1) (suc l) less ∙ ap (λ (x : ℕ). u % 2 ^ x) back) in
    let pos = pow_pos (suc l) in
    elim (all_open_or_not set (low l u) (2 ^ 56) refl) [
      | inl more ↦ open_above set u l (omega arith) more
      | inr out ↦ (
        low (suc l) u,
        record { is_mask = (omega arith, omega arith); short = h; open_throughout = all; maximal = inr (λ a. out (subst (AllOpen set) up a)) },
        eq-eqb (u % 2 ^ suc l) (u % 2 ^ suc l) refl,
      )
    ]

pub held : (set : ℕ → Bool) (u : ℕ) → IsUid u → set u ≡ true → (m : BitMask) × IsOpenMask set m × (lies_in m u ≡ true)
held set u is_uid h = open_above set u 56 (omega arith) (λ v is there.
    let low_bits : v % 2 ^ 56 ≡ u % 2 ^ 56 = inside (low 56 u) v there in
    let same : v ≡ u = omega (arith, low_bits, is.0, is.1, is_uid.0, is_uid.1) in
    ap set same ∙ h)

-- what all of them hold is the set
pub all_held : (set : ℕ → Bool) (ms : List BitMask) → AreAll (IsOpenMask set) ms → SameUids set (λ u. list_any (λ m. lies_in m u) ms)
all_held set ms all u is_uid =
    same_tests (set u) (list_any (λ m. lies_in m u) ms)
    (λ e.
    let h = held set u is_uid e in
    let at = all.others h.0 h.1 in
    list_any_at (λ m. lies_in m u) ms at.0 h.0 at.1 (ap (λ m. lies_in m u) at.2 ∙ h.2))
    (λ e.
    let one = Any-from_list_any (λ m. lies_in m u) ms e in
    (All-contains (IsOpenMask set) ms one.1 all.wanted (one.0, one.2, one.3)).open_throughout u is_uid one.4)
