-- Which masks lie within a mask, by the middles of their keys.
use Rattle.std.proofs.Common.{◌≡◌, ◌∙◌, ℕ, suc, ◌+◌, ◌-◌, ◌*◌, ◌^◌, ◌%◌, ◌<◌, ◌≤◌, ◌==◌, ◌&&◌, ◌||◌, ◌++◌, ◌∷◌, [], Bool, true, false, List, nat_le, nat_lt, refl, sym, ap, subst, arith, inl, inr, pow-add, lt_of_mul-lt-mul_right, mul-le-mul_right, pow_pos, pow_mono, mod-eq_of_lt}
use Rattle.std.proofs.Math.Nat.{mul_assoc}
use Rattle.std.proofs.lemmas.Bool.{cases_lt, cases_eq}
use Rattle.std.proofs.lemmas.Bool.Decides.{nat_tests}
use Rattle.std.proofs.lemmas.List.Folds.{list_any-append}
use Rattle.std.specs.List.{list_any}
use Rattle.vic_frame.proofs.MirrorLaws.{first_of, in_span}
use Rattle.vic_frame.specs.LowBitsFirst.{mirror, mirror_bits}
use Rattle.vic_frame.specs.Masks.{BitMask, IsMask}
use Rattle.vic_object.specs.Asking.{is_within}
use Rattle.vic_object.specs.inner.Middles.{is_middle_in, middle_of}

-- one multiple below another is below it by one more
one_more : (y k s : ℕ) → y * s < k * s → y * s + s ≤ k * s
one_more y k s lt = let less : y < k = lt_of_mul-lt-mul_right s lt in let le : suc y * s ≤ k * s = mul-le-mul_right s less in omega arith

-- of two masks, the keys of the one with no fewer bits lie beside those of the other, or among them
record IsApart (a t b s : ℕ) : Type 0 where
  some : 0 < s
  less : s ≤ t
  before : b < a → b + s ≤ a
  within : b < a + t → b + s ≤ a + t

apart : (m n : BitMask) → IsMask m → IsMask n → m.len ≤ n.len → n.len ≤ 56 → IsApart (mirror m.value) (2 ^ (56 - m.len)) (mirror n.value) (2 ^ (56 - n.len))
apart m n m_is n_is le short =
    let s : ℕ = 2 ^ (56 - n.len) in
    let q : ℕ = 2 ^ (n.len - m.len) in
    let x : ℕ = mirror_bits m.len m.value in
    let y : ℕ = mirror_bits n.len n.value in
    let pos = pow_pos (56 - n.len) in
    let t : 2 ^ (56 - m.len) ≡ q * s = ap (λ (k : ℕ). 2 ^ k) (let e : 56 - m.len ≡ (n.len - m.len) + (56 - n.len) = omega arith in e) ∙ pow-add 2 (n.len - m.len) (56 - n.len) in
    let a : mirror m.value ≡ x * q * s = first_of m.len (56 - m.len) 56 m.value (omega arith) m_is.1 ∙ ap (λ (k : ℕ). x * k) t ∙ sym (mul_assoc x q s) in
    let b : mirror n.value ≡ y * s = first_of n.len (56 - n.len) 56 n.value (omega arith) n_is.1 in
    let both : mirror m.value + 2 ^ (56 - m.len) ≡ (x * q + q) * s = omega (arith, a, t) in
    record {
      some = pos;
      less = pow_mono {j = 56 - m.len} (omega arith);
      before = λ lt. let w = one_more y (x * q) s (omega (arith, lt, a, b)) in omega (arith, w, a, b);
      within = λ lt. let w = one_more y (x * q + q) s (omega (arith, lt, both, b)) in omega (arith, w, both, b);
    }

-- the same where the one has more bits than a UID
apart_one : (a t b : ℕ) → 0 < t → IsApart a t b 1
apart_one a t b pos = record { some = omega arith; less = omega (arith, pos); before = λ lt. omega (arith, lt); within = λ lt. omega (arith, lt) }

apart_any : (m n : BitMask) → IsMask m → IsMask n → m.len ≤ n.len → m.len ≤ 56 → IsApart (mirror m.value) (2 ^ (56 - m.len)) (mirror n.value) (2 ^ (56 - n.len))
apart_any m n m_is n_is le short = elim (cases_lt 56 n.len) [
  | inl long ↦ let one : 2 ^ (56 - n.len) ≡ 1 = ap (λ (k : ℕ). 2 ^ k) (let z : 56 - n.len ≡ 0 = omega (arith, long) in z) in rw one (apart_one (mirror m.value) (2 ^ (56 - m.len)) (mirror n.value) (pow_pos (56 - m.len)))
  | inr le56 ↦ apart m n m_is n_is le le56
]

-- so the middle tells whether they lie among them
among : (a t b s : ℕ) → IsApart a t b s → (nat_lt (2 * a) (2 * b + s) && nat_lt (2 * b + s) (2 * (a + t))) ≡ (nat_le a b && nat_le b (a + (t - 1)))
among a t b s w =
    let some = w.some in
    let less = w.less in
    let before = w.before in
    let within = w.within in
    grind (arith, nat_tests)

-- a mask with fewer bits has its middle at the border of two, or elsewhere
between_none : (t x k : ℕ) → 2 * (x * t) < 2 * (k * t) → 2 * (k * t) < 2 * (x * t + t) → ⊥
between_none t x k lo hi =
    let above : x < k = lt_of_mul-lt-mul_right t (omega (arith, lo)) in
    let below : k < suc x = lt_of_mul-lt-mul_right t (omega (arith, hi)) in
    omega (arith, above, below)

shorter : (m n : BitMask) → IsMask m → IsMask n → n.len < m.len → m.len ≤ 56 → is_middle_in m (middle_of n) ≡ false
shorter m n m_is n_is lt short =
    let t : ℕ = 2 ^ (56 - m.len) in
    let r : ℕ = 2 ^ (m.len - n.len - 1) in
    let x : ℕ = mirror_bits m.len m.value in
    let y : ℕ = mirror_bits n.len n.value in
    let half : 2 ^ (56 - n.len - 1) ≡ r * t = ap (λ (k : ℕ). 2 ^ k) (let e : 56 - n.len - 1 ≡ (m.len - n.len - 1) + (56 - m.len) = omega arith in e) ∙ pow-add 2 (m.len - n.len - 1) (56 - m.len) in
    let s : 2 ^ (56 - n.len) ≡ 2 * (r * t) = ap (λ (k : ℕ). 2 ^ k) (let e : 56 - n.len ≡ 1 + (56 - n.len - 1) = omega arith in e) ∙ pow-add 2 1 (56 - n.len - 1) ∙ ap (λ (k : ℕ). 2 * k) half in
    let a : mirror m.value ≡ x * t = first_of m.len (56 - m.len) 56 m.value (omega arith) m_is.1 in
    let b : mirror n.value ≡ y * 2 ^ (56 - n.len) = first_of n.len (56 - n.len) 56 n.value (omega arith) n_is.1 in
    let whole : y * 2 ^ (56 - n.len) ≡ 2 * (y * r * t) = ap (λ (k : ℕ). y * k) s ∙ (let e : y * (2 * (r * t)) ≡ 2 * (y * (r * t)) = omega arith in e) ∙ ap (λ (k : ℕ). 2 * k) (sym (mul_assoc y r t)) in
    let mid : middle_of n ≡ 2 * ((2 * (y * r) + r) * t) = omega (arith, b, whole, s) in
    let none = between_none t x (2 * (y * r) + r) in
    grind (arith, nat_tests, a, mid, none)

pub middle_within : (m n : BitMask) → IsMask m → IsMask n → m.len ≤ 56 → is_middle_in m (middle_of n) ≡ is_within m n
middle_within m n m_is n_is short = elim (cases_lt n.len m.len) [
  | inl lt ↦ shorter m n m_is n_is lt short ∙ sym (let e : is_within m n ≡ false = grind (arith, nat_tests) in e)
  | inr le ↦
      let span = in_span m.len (56 - m.len) m.value n.value (omega arith) m_is.1 in
      let e = among (mirror m.value) (2 ^ (56 - m.len)) (mirror n.value) (2 ^ (56 - n.len)) (apart_any m n m_is n_is le short) ∙ sym span in
      elim (cases_eq m.len n.len) [
        | inl same ↦
            let low : n.value % 2 ^ m.len ≡ n.value = mod-eq_of_lt (subst (λ (l : ℕ). n.value < 2 ^ l) (sym same) n_is.1) in
            e ∙ (let f : (n.value % 2 ^ m.len == m.value) ≡ is_within m n = grind (arith, nat_tests, low) in f)
        | inr other ↦ e ∙ (let f : (n.value % 2 ^ m.len == m.value) ≡ is_within m n = grind (arith, nat_tests) in f)
      ]
]

-- ---- noting middles

or_other : (a b : Bool) → (a || (b || false)) ≡ (b || a)
or_other true true = refl
or_other true false = refl
or_other false true = refl
or_other false false = refl

pub middle_more : (m n : BitMask) (old : List ℕ) → IsMask m → IsMask n → m.len ≤ 56 → list_any (is_middle_in m) (old ++ middle_of n ∷ []) ≡ (is_within m n || list_any (is_middle_in m) old)
middle_more m n old m_is n_is short =
    list_any-append (is_middle_in m) old (middle_of n ∷ [])
    ∙ or_other (list_any (is_middle_in m) old) (is_middle_in m (middle_of n))
    ∙ ap (λ (b : Bool). b || list_any (is_middle_in m) old) (middle_within m n m_is n_is short)
