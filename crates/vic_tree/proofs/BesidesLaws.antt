-- Ranges of keys without some keys.
use Rattle.vic_tree.proofs.Words.{◌≡◌, ℕ, ◌+◌, ◌-◌, ◌^◌, ◌<◌, ◌≤◌, ◌⊎◌, ◌↔◌, inl, inr, Bool, true, false, List, Option, Some, None, IfNone, IfSome, sym, ap, subst, ◌∙◌, arith, pow_pos, cases_lt, BitMask, IsMask, lies_in, mirror, uid_of, mirror_of_uid, AllOpen, IsAtMost, IsWidest, SameUids, without_keys, is_open_in, HoldsMask, IsFirstRun, is_left, nat_tests, is_uid, AllKeysPass, ComesFirstIn, IsFoundBelow, IsMaskIn, IsWidestBelow}
use Rattle.vic_tree.proofs.BlockLaws.{key_in_mask, mask_ends}
use Rattle.vic_tree.proofs.RangeLaws.{inside_is, is_inside}

-- a key that passes lies below another, or in the first run from that one on
pub in_run : (p : ℕ → Bool) (from x y k : ℕ) → IsFirstRun p from x y → p k ≡ true → k < y + 2 → (k < from) ⊎ ((x ≤ k) × (k ≤ y))
in_run p from x y k run t lt = grind (arith, nat_tests, run.before k, run.ends)

-- ---- the widest mask

pub first_passes : (p : ℕ → Bool) (m : BitMask) → AllKeysPass p m → p (mirror m.value) ≡ true
first_passes p m all = let pos = pow_pos (56 - m.len) in all (mirror m.value) (omega arith) (omega arith)

-- a mask whose keys pass doesn't go beyond a key that fails
pub in_gap : (p : ℕ → Bool) (from to : ℕ) (m : BitMask) → p (to + 1) ≡ false → AllKeysPass p m → from ≤ mirror m.value → mirror m.value < to + 1 → HoldsMask from to m
in_gap p from to m end all low high = (low, grind (arith, all (to + 1), end))

-- the widest mask of a run, and one that was found before
found_passes : (p : ℕ → Bool) (o : Option BitMask) (m : BitMask) (b x y : ℕ) → ((k : ℕ) → x ≤ k → k ≤ y → p k ≡ true) → IsMaskIn x y m ⊎ (o ≡ Some m) → IsFoundBelow p b o → IsMask m × (m.len ≤ 56) × AllKeysPass p m
found_passes p o m b x y all (inl h) w = (h.0, h.1, λ k lo hi. all k (omega (arith, h.2.0, lo)) (omega (arith, h.2.1, hi)))
found_passes p o m b x y all (inr e) w = let v : IsWidestBelow p b m = subst (IsFoundBelow p b) e w in (v.is_mask, v.short, v.passes)

least_found : (p : ℕ → Bool) (o : Option BitMask) (m n : BitMask) (b : ℕ) → IfSome o (IsAtMost m) → IsFoundBelow p b o → IsMask n → n.len ≤ 56 → AllKeysPass p n → mirror n.value < b → IsAtMost m n
least_found p None m n b at w is short all lt = absurd (let t = first_passes p n all in let f = w (mirror n.value) lt in cc (t, f))
least_found p (Some y) m n b at w is short all lt = let le = w.least n is short all lt in (omega (arith, at.0, le.0), λ e. omega (arith, at.0, at.1, le.0, le.1))

pub run_found : (p : ℕ → Bool) (o : Option BitMask) (m : BitMask) (from x y : ℕ) → IsFirstRun p from x y
    → IsMaskIn x y m ⊎ (o ≡ Some m) → ComesFirstIn x y m → IfSome o (IsAtMost m) → IsFoundBelow p from o → IsFoundBelow p (y + 2) (Some m)
run_found p o m from x y run one first at w =
    let got = found_passes p o m from x y run.passes one w in
    record {
      is_mask = got.0;
      short = got.1;
      passes = got.2;
      least = λ n is short all lt. elim (in_run p from x y (mirror n.value) run (first_passes p n all) lt) [
        | inl below ↦ least_found p o m n from at w is short all below
        | inr i ↦ first n is short (in_gap p x y n run.ends all i.0 (omega (arith, i.1)))
      ];
    }

-- the keys of a mask pass if and only if its UIDs do
pub keys_open : (p : ℕ → Bool) (m : BitMask) → IsMask m → m.len ≤ 56 → AllKeysPass p m ↔ AllOpen (λ u. p (mirror u)) m
keys_open p m h k =
    let last : ℕ = mirror m.value + (2 ^ (56 - m.len) - 1) in
    let pos = pow_pos (56 - m.len) in (
      λ pass u i inside.
          let t = inside_is (mirror m.value) last (mirror u) (sym (key_in_mask m u h k) ∙ inside) in
          pass (mirror u) t.0 (omega (arith, t.1)),
      λ all x lo hi.
          let back : mirror (uid_of x) ≡ x = mirror_of_uid x (omega (arith, mask_ends m h k)) in
          let inside : lies_in m (uid_of x) ≡ true = key_in_mask m (uid_of x) h k ∙ is_inside (mirror m.value) last (mirror (uid_of x)) (omega arith) (omega arith) in
          sym (ap p back) ∙ all (uid_of x) (is_uid x) inside,
    )

-- once no key is left, what was found is the widest mask, or the set is empty
pub all_found : (es : List (ℕ × ℕ)) (keys : List ℕ) (b : ℕ) (o : Option BitMask) → ((k : ℕ) → b ≤ k → is_left es keys k ≡ false) → IsFoundBelow (is_left es keys) b o
    → IfSome o (IsWidest (without_keys (is_open_in es) keys)) × IfNone o (SameUids (without_keys (is_open_in es) keys) (λ u. false))
all_found es keys b None none w = (tt, λ u i. elim (cases_lt (mirror u) b) [ inl lt ↦ w (mirror u) lt | inr le ↦ none (mirror u) le ])
all_found es keys b (Some m) none w = (
  record {
    is_mask = w.is_mask;
    short = w.short;
    open_throughout = (keys_open (is_left es keys) m w.is_mask w.short).0 w.passes;
    least = λ n is short all.
        let pass = (keys_open (is_left es keys) n is short).1 all in
        grind (arith, w.least n is short pass, none (mirror n.value), first_passes (is_left es keys) n pass);
  },
  tt,
)
