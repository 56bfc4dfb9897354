-- The widest mask of a fork, from those of its halves.
use Rattle.vic_sets.proofs.Words.{◌≡◌, ℕ, ◌+◌, ◌-◌, ◌*◌, ◌/◌, ◌^◌, ◌%◌, ◌<◌, ◌⊎◌, inl, inr, Box, refl, sym, ap, ◌∙◌, arith, Bool, false, cond, ◌==◌, cases_eq, mod-eq_of_lt, Global, mod_below, pow_more, BitMask, Node, Fork', Full, Empty, Fork, Halves, open_at, IsAtMost, IsWidestOf, IsReduced, AllPass, with_low_bit}
use Rattle.vic_sets.proofs.Bits.{half_below, low_and_rest}

-- the numbers with a lowest bit pass where those without it pass another test
abbrev pub IsHalf : (ℕ → Bool) → ℕ → (ℕ → Bool) → Type 0
IsHalf f bit p = (u : ℕ) → f (2 * u + bit) ≡ p u

-- what a fork of two tests answers
abbrev forked : (ℕ → Bool) → (ℕ → Bool) → ℕ → Bool
forked p q u = cond (u % 2 == 0) (p (u / 2)) (q (u / 2))

pub zero_half : (p q : ℕ → Bool) → IsHalf (forked p q) 0 p
zero_half p q u =
    let e : (2 * u + 0) % 2 ≡ 0 = omega arith in
    let f : (2 * u + 0) / 2 ≡ u = omega arith in
    rw (e, f) refl

pub one_half : (p q : ℕ → Bool) → IsHalf (forked p q) 1 q
one_half p q u =
    let e : (2 * u + 1) % 2 ≡ 1 = omega arith in
    let f : (2 * u + 1) / 2 ≡ u = omega arith in
    rw (e, f) refl

-- a reduced node that isn't full has a number that is closed
closed_number : (n : Node) → IsReduced n → (n ≡ Full) ⊎ ((u : ℕ) × (open_at n u ≡ false))
closed_number Full r = inl refl
closed_number Empty r = inr (0, refl)
closed_number (Fork' p l h) r = inr (at_sides (closed_number l r.0) (closed_number h r.1)) where
  at_sides : (l ≡ Full) ⊎ ((u : ℕ) × (open_at l u ≡ false)) → (h ≡ Full) ⊎ ((u : ℕ) × (open_at h u ≡ false)) → (u : ℕ) × (forked (open_at l) (open_at h) u ≡ false)
  at_sides (inr a) b = (2 * a.0 + 0, zero_half (open_at l) (open_at h) a.0 ∙ a.1)
  at_sides (inl a) (inr b) = (2 * b.0 + 1, one_half (open_at l) (open_at h) b.0 ∙ b.1)
  at_sides (inl a) (inl b) = absurd (r.2 (rw (a, b) tt))

fork_closed : (halves : Box Halves Global) → IsReduced (Fork halves) → (u : ℕ) × (open_at (Fork halves) u ≡ false)
fork_closed halves r = elim (closed_number (Fork halves) r) [ inl a ↦ absurd (cc) | inr b ↦ b ]

-- a mask that passes in a half passes with its bit
pass_more : (f p : ℕ → Bool) (bit : ℕ) (m : BitMask) → bit < 2 → IsHalf f bit p → AllPass p m → AllPass f (with_low_bit bit m)
pass_more f p bit m small half h u e =
    let parts = low_and_rest u m.len in
    let low = mod_below u 2 (omega arith) in
    let is : 2 * (u / 2) + bit ≡ u = omega arith in
    ap f (sym is) ∙ half (u / 2) ∙ h (u / 2) (omega arith)

-- and one that passes does so in the half of its lowest bit, without that
pass_less : (f p : ℕ → Bool) (n : BitMask) → 0 < n.len → IsHalf f (n.value % 2) p → AllPass f n → AllPass p (record { len = n.len - 1; value = n.value / 2 })
pass_less f p n pos half h w e =
    let u : ℕ = 2 * w + n.value % 2 in
    let len : n.len - 1 + 1 ≡ n.len = omega arith in
    let rest : u / 2 ≡ w = omega arith in
    let parts = rw (rest, len) at (low_and_rest u (n.len - 1)) in
    sym (half w) ∙ h u (omega arith)

-- the widest mask of a half is that of a fork, where no mask of the other half comes before it
pub half_widest : (halves : Box Halves Global) (p q : ℕ → Bool) (bit : ℕ) (m : BitMask) → IsReduced (Fork halves) → bit < 2 → IsHalf (open_at (Fork halves)) bit p → IsHalf (open_at (Fork halves)) (1 - bit) q → IsWidestOf p m
    → ((n : BitMask) → n.value < 2 ^ n.len → AllPass q n → IsAtMost (with_low_bit bit m) (with_low_bit (1 - bit) n)) → IsWidestOf (open_at (Fork halves)) (with_low_bit bit m)
half_widest halves p q bit m reduced small own other w others = record {
  fits = omega (arith, w.fits, pow_more 2 m.len);
  passes = pass_more f p bit m small own w.passes;
  least = λ n fits h. elim (cases_eq n.len 0) [
    | inl none ↦
        let size : 2 ^ n.len ≡ 1 = ap (λ l. 2 ^ l) none in
        let closed = fork_closed halves reduced in
        let passed = h closed.0 (rw size (omega arith)) in
        absurd (cc (passed, closed.1))
    | inr some ↦ elim (cases_eq (n.value % 2) bit) [
      | inl e ↦
          let g = w.least (shorter n) (half_below n.value n.len (omega arith) fits) (pass_less f p n (omega arith) (rw e own) h) in
          (omega (arith, g.0), λ z. omega (arith, g.1))
      | inr ne ↦
          let e : n.value % 2 ≡ 1 - bit = omega arith in
          let g = others (shorter n) (half_below n.value n.len (omega arith) fits) (pass_less f q n (omega arith) (rw e other) h) in
          (omega (arith, g.0), λ z. omega (arith, g.1))
    ]
  ];
} where
  f : ℕ → Bool
  f = open_at (Fork halves)

  shorter : BitMask → BitMask
  shorter n = record { len = n.len - 1; value = n.value / 2 }

-- nothing passes where nothing is open
pub none_passes : {A : Type 0} (q : ℕ → Bool) (n : BitMask) → ((u : ℕ) → q u ≡ false) → n.value < 2 ^ n.len → AllPass q n → A
none_passes q n none fits h = let e : n.value % 2 ^ n.len ≡ n.value = mod-eq_of_lt fits in absurd (cc (h n.value e, none n.value))
