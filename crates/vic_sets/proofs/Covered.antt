-- A mask whose UIDs all lie in some cells lies in one of them.
use Rattle.vic_sets.proofs.Words.{◌≡◌, ℕ, zero, suc, ◌+◌, ◌-◌, ◌*◌, ◌^◌, ◌%◌, ◌<◌, ◌≤◌, ◌⊎◌, inl, inr, add-mod_right, Any-from_list_any, pow_more, sym, ap, subst, ◌∙◌, arith, List, All, Contains, eqb-true, eq-eqb, mod-eq_of_lt, cases_lt, BitMask, IsMask, lies_in, mod_mod_pow, IsAtMost, IsWidest, in_cells, AreCells, All-contains, list_any_at, lower_half, upper_half, AllOpen, same_mask, IsCell, NoHalves}
use Rattle.vic_sets.proofs.CellLaws.{longer}

-- a cell that holds all of a mask
pub record Holder (cells : List BitMask) (m : BitMask) : Type 0 where
  pub cell : BitMask
  pub among : Contains cells cell
  pub shorter : cell.len ≤ m.len
  pub agrees : m.value % 2 ^ cell.len ≡ cell.value

-- a cell that holds a half of a mask holds all of it, or is that half
from_half : (cells : List BitMask) (m : BitMask) (v : ℕ) → (IsMask (longer m v) → AllOpen (in_cells cells) (longer m v) → Holder cells (longer m v)) → m.len < 56 → v % 2 ^ m.len ≡ m.value → v < 2 ^ (m.len + 1) → AllOpen (in_cells cells) m → Holder cells m ⊎ Contains cells (longer m v)
from_half cells m v holder short low fits all =
    let h = holder (omega arith, fits) (λ u i k. all u i (eq-eqb _ _ (sym (mod_mod_pow u m.len (m.len + 1) (omega arith)) ∙ ap (λ x. x % 2 ^ m.len) (eqb-true _ _ k) ∙ low))) in
    elim (cases_lt m.len h.cell.len) [
      | inr p ↦ inl (record { cell = h.cell; among = h.among; shorter = p; agrees = ap (λ x. x % 2 ^ h.cell.len) (sym low) ∙ mod_mod_pow v h.cell.len m.len p ∙ h.agrees })
      | inl p ↦
          let len : h.cell.len ≡ m.len + 1 = omega (arith, h.shorter) in
          let value : h.cell.value ≡ v = sym h.agrees ∙ ap (λ l. v % 2 ^ l) len ∙ mod-eq_of_lt fits in
          inr (subst (Contains cells) (same_mask h.cell (longer m v) len value) h.among)
    ]

covered : (k : ℕ) (cells : List BitMask) (m : BitMask) → All IsCell cells → NoHalves cells → IsMask m → k + m.len ≡ 56 → AllOpen (in_cells cells) m → Holder cells m
covered zero cells m short apart is_mask e all =
    let full : m.len ≡ 56 = omega arith in
    let fits : m.value < 2 ^ 56 = rw full at is_mask.1 in
    let u : ℕ = 0xE0 * 2 ^ 56 + m.value in
    let low : u % 2 ^ 56 ≡ m.value = omega arith in
    let c = Any-from_list_any (λ x. lies_in x u) cells (all u (omega arith, omega arith) (eq-eqb _ _ (rw full low))) in
    let c_short = All-contains IsCell cells c.1 short (c.0, c.2, c.3) in
    record { cell = c.1; among = (c.0, c.2, c.3); shorter = omega (arith, c_short.1, full); agrees = sym (ap (λ x. x % 2 ^ c.1.len) low) ∙ mod_mod_pow u c.1.len 56 c_short.1 ∙ eqb-true _ _ c.4 }
covered (suc k) cells m short apart is_mask e all =
    let size = pow_more 2 m.len in
    elim (from_half cells m m.value (λ i. covered k cells (lower_half m) short apart i (omega arith)) (omega arith) (mod-eq_of_lt is_mask.1) (omega (arith, is_mask.1)) all) [
      | inl h ↦ h
      | inr a ↦ elim (from_half cells m (m.value + 2 ^ m.len) (λ i. covered k cells (upper_half m) short apart i (omega arith)) (omega arith) (add-mod_right m.value (2 ^ m.len) ∙ mod-eq_of_lt is_mask.1) (omega (arith, is_mask.1)) all) [
        | inl h ↦ h
        | inr b ↦ absurd (apart m is_mask a b)
      ]
    ]

-- the least of the cells is the widest mask
pub widest_cell : (cells : List BitMask) (m : BitMask) → AreCells cells → Contains cells m → All (IsAtMost m) cells → IsWidest (in_cells cells) m
widest_cell cells m h among first = record {
  is_mask = (All-contains IsCell cells m h.are_cells among).0;
  short = (All-contains IsCell cells m h.are_cells among).1;
  open_throughout = λ u i inside. list_any_at (λ x. lies_in x u) cells among.0 m among.1 (ap (λ x. lies_in x u) among.2 ∙ inside);
  least = λ n is_mask short all.
      let rest : ℕ = 56 - n.len in
      let c = covered rest cells n h.are_cells h.joined is_mask (omega arith) all in
      let at_most = All-contains (IsAtMost m) cells c.cell first c.among in
      (omega (arith, at_most.0, c.shorter), λ e. let same : c.cell.len ≡ n.len = omega (arith, at_most.0, c.shorter) in let value : c.cell.value ≡ n.value = sym c.agrees ∙ ap (λ l. n.value % 2 ^ l) same ∙ mod-eq_of_lt is_mask.1 in omega (arith, at_most.1 (e ∙ sym same), value));
}
