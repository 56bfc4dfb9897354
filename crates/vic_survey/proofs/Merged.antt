-- Masks in order, without others in order.
use Rattle.vic_survey.proofs.ValueWords.{Bool, List, [], and_parts, ap, arith, eq-eqb, eqb-true, false, get_or, length, refl, subst, sym, true, zero, suc, ℕ, ◌&&◌, ◌==◌, ◌++◌, ◌<◌, ◌+◌, ◌≤◌, ◌∙◌, ◌∷◌, ◌≡◌, BitMask}
use Rattle.vic_tree.proofs.FirstMasks.{same_mask}
use Rattle.std.proofs.Common.{◌↔◌, inl, inr, take}
use Rattle.std.proofs.lemmas.Bool.{cases_lt}
use Rattle.std.proofs.lemmas.List.{get_or_default}
use Rattle.std.specs.List.{AllPairs, Contains}
use Rattle.vic_tree.specs.OpenMasks.{ComesBefore}
use Rattle.vic_survey.specs.Parts.{AreRisingMasks}

-- no mask comes before itself, and of two only one before the other
pub not_after : (a b : BitMask) → ComesBefore a b → ComesBefore b a → ⊥
not_after a b h k =
    let len : a.len ≡ b.len = omega (arith, h.0, k.0) in
    omega (arith, h.1 len, k.1 (sym len))

pub not_itself : (a : BitMask) → ComesBefore a a → ⊥
not_itself a h = not_after a a h h

-- the first mask is none of those that it doesn't come before
pub behind_first : (first : BitMask) (others : List BitMask) (m : BitMask) → (first ≡ m → ⊥) → Contains others m ↔ Contains (first ∷ others) m
behind_first first others m other = (λ c. (suc c.0, omega (arith, c.1), c.2), back) where
  back : Contains (first ∷ others) m → Contains others m
  back (zero, lt, e) = absurd (other e)
  back (suc k, lt, e) = (k, omega (arith, lt), e)

pub pairs_behind : (first : BitMask) (others : List BitMask) → AllPairs ComesBefore (first ∷ others) → AllPairs ComesBefore others
pairs_behind first others h i j d lt within = h (suc i) (suc j) d (omega (arith, lt)) (omega (arith, within))

-- a mask that none of some in order comes behind is one of them only if it is the first
pub only_first : (first : BitMask) (others : List BitMask) (m : BitMask) → AllPairs ComesBefore (first ∷ others) → (ComesBefore first m → ⊥) → Contains (first ∷ others) m → first ≡ m
only_first first others m up none (zero, lt, e) = e
only_first first others m up none (suc k, lt, e) = absurd (none (subst (λ x. ComesBefore first x) e (up zero (suc k) m (omega arith) lt)))

-- a later mask doesn't come before an earlier one
pub not_before : (ms : List BitMask) (i j : ℕ) (d x : BitMask) → AreRisingMasks ms → i ≤ j → j < length ms → x ≡ get_or ms i x → ComesBefore (get_or ms j d) x → ⊥
not_before ms i j d x o le lt is h = elim (cases_lt i j) [
  | inl less ↦ not_after (get_or ms i d) (get_or ms j d) (o.rising i j d less lt) (subst (ComesBefore (get_or ms j d)) here h)
  | inr from ↦
      let same : i ≡ j = omega (arith, le, from) in
      not_itself (get_or ms i d) (subst (λ k. ComesBefore (get_or ms k d) (get_or ms i d)) (sym same) (subst (ComesBefore (get_or ms j d)) here h))
] where
  here : x ≡ get_or ms i d
  here = is ∙ get_or_default ms i x d (omega (arith, le, lt))

-- what the first mask's equality with another says
pub is_first_iff : (first : BitMask) (others : List BitMask) (m : BitMask) (b : Bool) → AllPairs ComesBefore (first ∷ others) → (ComesBefore first m → ⊥) → b ≡ (first.len == m.len && first.value == m.value) → (b ≡ true) ↔ Contains (first ∷ others) m
is_first_iff first others m b up none is = (
  λ e.
      let p = and_parts (first.len == m.len) (first.value == m.value) (sym is ∙ e) in
      (zero, omega arith, same_mask first m (eqb-true first.len m.len p.0) (eqb-true first.value m.value p.1)),
  λ c.
      let same = only_first first others m up none c in
      is ∙ rw same (rw (eq-eqb m.len m.len refl, eq-eqb m.value m.value refl) refl),
)

-- a mask that comes before another isn't that one
pub before_other : (a b m : BitMask) → ComesBefore a b → (ComesBefore m b → ⊥) → a ≡ m → ⊥
before_other a b m h none e = none (subst (λ x. ComesBefore x b) e h)
