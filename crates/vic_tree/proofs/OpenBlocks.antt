-- The maximal blocks of a run of keys.
use Rattle.vic_tree.proofs.Words.{◌≡◌, ℕ, ◌+◌, ◌-◌, ◌*◌, ◌/◌, ◌^◌, ◌%◌, ◌<◌, ◌≤◌, ◌⊎◌, ◌↔◌, inl, inr, Bool, false, List, Option, Some, IfSome, sym, ap, subst, ◌∙◌, arith, pow_pos, same_from_place, lt_of_mul-lt-mul_right, cases_lt, cases_eq, BitMask, IsMask, mirror, mirror_bits, mirror_below, IsOpenMask, parent, AllOpen, without_keys, IsMaximalIn, IsOpenBelow, is_open_in, HoldsMask, IsFirstRun, is_left, mirror_split, mirror_mod, IsMaximalAt, IsOpenBlock, AllKeysPass}
use Rattle.vic_tree.proofs.BlockLaws.{IsBlockMask, not_before, number_of_mask, twice, FirstBlock, value_is}
use Rattle.vic_tree.proofs.FirstMasks.{same_mask}
use Rattle.vic_tree.proofs.BesidesLaws.{first_passes, in_gap, in_run, keys_open}

-- where a mask stands in its parent, by the number of its block
pub record InParent (m : BitMask) : Type 0 where
  pub size : 2 ^ (56 - (m.len - 1)) ≡ 2 * 2 ^ (56 - m.len)
  pub upper : mirror_bits m.len m.value % 2 ≡ 1 → mirror m.value ≡ mirror (parent m).value + 2 ^ (56 - m.len)
  pub lower : mirror_bits m.len m.value % 2 ≡ 0 → mirror m.value ≡ mirror (parent m).value

pub in_parent : (m : BitMask) → IsMask m → m.len ≤ 56 → (m.len ≡ 0 → ⊥) → InParent m
in_parent m is short some =
    let l : ℕ = m.len - 1 in
    let s : ℕ = 2 ^ (56 - m.len) in
    let n : ℕ = mirror_bits m.len m.value in
    let j : ℕ = mirror_bits l m.value in
    let back : l + 1 ≡ m.len = omega arith in
    let size : 2 ^ (56 - l) ≡ 2 * s = twice m.len (omega arith) short in
    let low : mirror_bits 1 (m.value / 2 ^ l) < 2 = mirror_below 1 (m.value / 2 ^ l) in
    let parts : n ≡ j * 2 + mirror_bits 1 (m.value / 2 ^ l) = mirror_split l 1 m.len m.value (sym back) in
    let pos = pow_pos l in
    let first : mirror (m.value % 2 ^ l) ≡ j * (2 * s) =
    number_of_mask l (m.value % 2 ^ l) (omega arith) (omega arith) ∙ ap (λ (x : ℕ). x * 2 ^ (56 - l)) (mirror_mod l m.value) ∙ ap (λ (x : ℕ). j * x) size in
    let own : mirror m.value ≡ n * s = number_of_mask m.len m.value short is.1 in
    record {
      size = size;
      upper = λ odd. let e : n * s ≡ (2 * j + 1) * s = ap (λ (x : ℕ). x * s) (let f : n ≡ 2 * j + 1 = omega arith in f) in omega arith;
      lower = λ even. let e : n * s ≡ 2 * j * s = ap (λ (x : ℕ). x * s) (let f : n ≡ 2 * j = omega arith in f) in omega arith;
    }

-- the number of a mask's block
number_is : (len q : ℕ) (m : BitMask) → len ≤ 56 → IsBlockMask len q m → mirror_bits len m.value ≡ q
number_is len q m h b =
    let pos = pow_pos (56 - len) in
    let same = sym (number_of_mask len m.value h (rw b.len_is at b.is_mask.1)) ∙ b.first_is in
    (same_from_place (mirror_bits len m.value) 0 q 0 (2 ^ (56 - len)) pos pos (omega arith)).0

-- a block in a run that begins near its start if the number is odd, and else ends near its end
pub record IsEdge (from to s n : ℕ) : Type 0 where
  pub inside : (from ≤ n * s) × ((n + 1) * s ≤ to + 1)
  pub upper : n % 2 ≡ 1 → n * s < from + s
  pub lower : n % 2 ≡ 0 → to + 1 < (n + 2) * s

-- such a block is maximal, and no other is: its parent begins before the run, or ends behind it
maximal_edge : (from to : ℕ) (m : BitMask) → IsMask m → m.len ≤ 56 → to < 2 ^ 56 → IsMaximalIn from to m ↔ IsEdge from to (2 ^ (56 - m.len)) (mirror_bits m.len m.value)
maximal_edge from to m is short small = elim (cases_eq m.len 0) [
  | inl z ↦
      let size : 2 ^ (56 - m.len) ≡ 2 ^ 56 = ap (λ (l : ℕ). 2 ^ (56 - l)) z in
      let below : mirror_bits m.len m.value < 2 ^ 0 = subst (λ (l : ℕ). mirror_bits m.len m.value < 2 ^ l) z (mirror_below m.len m.value) in (
        λ g. record { inside = held g; upper = λ odd. absurd (omega arith); lower = λ even. omega arith },
        λ e. record { inside = (is, short, (omega (arith, own, e.inside.0), omega (arith, own, e.inside.1))); maximal = inl z },
      )
  | inr some ↦
      let p = in_parent m is short some in (
        λ g.
            let out : HoldsMask from to (parent m) → ⊥ = elim g.maximal [ inl z ↦ absurd (some z) | inr out ↦ out ] in
            record { inside = held g; upper = λ odd. grind (arith, own, p.upper, p.size, held g, out); lower = λ even. grind (arith, own, p.lower, p.size, held g, out) },
        λ e. record {
          inside = (is, short, (omega (arith, own, e.inside.0), omega (arith, own, e.inside.1)));
          maximal = inr (λ w. grind (arith, own, w.0, w.1, p.size, p.upper, p.lower, e.upper, e.lower));
        },
      )
] where
  own : mirror m.value ≡ mirror_bits m.len m.value * 2 ^ (56 - m.len)
  own = number_of_mask m.len m.value short is.1

  held : IsMaximalIn from to m → (from ≤ mirror_bits m.len m.value * 2 ^ (56 - m.len)) × ((mirror_bits m.len m.value + 1) * 2 ^ (56 - m.len) ≤ to + 1)
  held g = (omega (arith, own, g.inside.2.0), omega (arith, own, g.inside.2.1))

pub edge_is_maximal : (from to len q s odd : ℕ) (m : BitMask) → len ≤ 56 → to < 2 ^ 56 → s ≡ 2 ^ (56 - len) → IsBlockMask len q m → IsEdge from to s q → q % 2 ≡ odd → IsMaximalAt from to len odd m
edge_is_maximal from to len q s odd m h small size b edge is =
    let number : mirror_bits len m.value ≡ q = number_is len q m h b in
    record {
      maximal = (maximal_edge from to m b.is_mask (omega (arith, b.len_is)) small).1 (rw (b.len_is, ← size, number) edge);
      len_is = b.len_is;
      side = rw number is;
    }

maximal_is_edge : (from to len odd s : ℕ) (m : BitMask) → s ≡ 2 ^ (56 - len) → to < 2 ^ 56 → IsMaximalAt from to len odd m → IsEdge from to s (mirror_bits len m.value)
maximal_is_edge from to len odd s m size small g = rw (g.len_is, ← size) at ((maximal_edge from to m g.maximal.inside.0 g.maximal.inside.1 small).0 g.maximal)

pub start_is_only : (from to len q s : ℕ) (m : BitMask) → s ≡ 2 ^ (56 - len) → to < 2 ^ 56 → FirstBlock from s q → IsMaximalAt from to len 1 m → (mirror_bits len m.value ≡ q) × IsEdge from to s q
start_is_only from to len q s m size small f g =
    let edge = maximal_is_edge from to len 1 s m size small g in
    let low = not_before from s q (mirror_bits len m.value) f.near edge.inside.0 in
    let high = not_before from s (mirror_bits len m.value) q (edge.upper g.side) f.from in
    let is : mirror_bits len m.value ≡ q = omega arith in
    (is, rw is at edge)

-- the last block that ends in a range
last_block : (x s : ℕ) → 0 < s → (x / s * s ≤ x) × (x < (x / s + 1) * s)
last_block x s pos = let e : s * (x / s) + x % s ≡ x = omega arith in let lt : x % s < s = omega arith in (omega arith, omega arith)

pub end_is_edge : (from to s j : ℕ) → 0 < s → (to + 1) / s ≡ j + 1 → j % 2 ≡ 0 → from ≤ j * s → IsEdge from to s j
end_is_edge from to s j pos is even low =
    let last = rw is at (last_block (to + 1) s pos) in
    record { inside = (low, last.0); upper = λ odd. absurd (omega arith); lower = λ e. omega (arith, last.1) }

pub end_is_only : (from to len s : ℕ) (m : BitMask) → s ≡ 2 ^ (56 - len) → 0 < s → to < 2 ^ 56 → IsMaximalAt from to len 0 m → (mirror_bits len m.value ≡ (to + 1) / s - 1) × ((to + 1) / s % 2 ≡ 1) × IsEdge from to s ((to + 1) / s - 1)
end_is_only from to len s m size pos small g =
    let n : ℕ = mirror_bits len m.value in
    let edge = maximal_is_edge from to len 0 s m size small g in
    let last = last_block (to + 1) s pos in
    let low : n + 1 < (to + 1) / s + 1 = lt_of_mul-lt-mul_right s (omega (arith, edge.inside.1, last.1)) in
    let high : (to + 1) / s < n + 2 = lt_of_mul-lt-mul_right s (omega (arith, edge.lower g.side, last.0)) in
    let is : n ≡ (to + 1) / s - 1 = omega arith in
    (is, omega (arith, g.side), rw is at edge)

-- a mask is told by its length and the number of its block
pub mask_at : (from to len q odd : ℕ) (m x : BitMask) → len ≤ 56 → IsBlockMask len q x → mirror_bits len m.value ≡ q → IsMaximalAt from to len odd m → x ≡ m
mask_at from to len q odd m x h b e g = same_mask x m (b.len_is ∙ sym g.len_is) (value_is len q x m h b g.maximal.inside.0 g.len_is e)

-- the maximal blocks of a run are open, and no others that begin in it: a key before it and one behind it fail
parent_held : (p : ℕ → Bool) (from to : ℕ) (m : BitMask) → IsMask m → m.len ≤ 56 → (m.len ≡ 0 → ⊥) → ((k : ℕ) → k + 1 ≡ from → p k ≡ false) → p (to + 1) ≡ false → HoldsMask from to m → AllKeysPass p (parent m) → HoldsMask from to (parent m)
parent_held p from to m is short some before behind held all =
    let i = in_parent m is short some in
    let n : ℕ = mirror_bits m.len m.value in
    let pos = pow_pos (56 - m.len) in
    let near : (mirror (parent m).value ≤ mirror m.value) × (mirror m.value < mirror (parent m).value + 2 ^ (56 - (m.len - 1))) = (grind (arith, i.lower, i.upper), grind (arith, i.lower, i.upper, i.size)) in
    let low : from ≤ mirror (parent m).value = grind (arith, all (from - 1), before (from - 1), held.0) in
    in_gap p from to (parent m) behind all low (omega (arith, near.0, held.1))

-- those that begin below the end of one run more
pub run_opened : (p : ℕ → Bool) (from first last : ℕ) → ((k : ℕ) → k + 1 ≡ from → p k ≡ false) → first ≤ last → IsFirstRun p from first last → (m : BitMask) → IsOpenBelow p from m ⊎ IsMaximalIn first last m ↔ IsOpenBelow p (last + 2) m
run_opened p from first last cut forward run m = (
  λ w. elim w [
    | inl old ↦ (old.0, let a = run.begins in omega (arith, old.1))
    | inr g ↦ let pos = pow_pos (56 - m.len) in (
      record {
        is_mask = g.inside.0;
        short = g.inside.1;
        passes = λ k lo hi. run.passes k (omega (arith, g.inside.2.0, lo)) (omega (arith, g.inside.2.1, hi));
        maximal = elim g.maximal [
          | inl z ↦ inl z
          | inr out ↦ elim (cases_eq m.len 0) [ inl z ↦ inl z | inr some ↦ inr (λ all. out (parent_held p first last m g.inside.0 g.inside.1 some before run.ends g.inside.2 all)) ]
        ];
      },
      omega (arith, g.inside.2.1),
    )
  ],
  λ w. elim (in_run p from first last (mirror m.value) run (first_passes p m w.0.passes) w.1) [
    | inl lt ↦ inl (w.0, lt)
    | inr at ↦ inr (record {
      inside = (w.0.is_mask, w.0.short, in_gap p first last m run.ends w.0.passes at.0 (omega (arith, at.1)));
      maximal = elim w.0.maximal [ inl z ↦ inl z | inr out ↦ inr (λ held. out (λ k lo hi. run.passes k (omega (arith, held.0, lo)) (omega (arith, held.1, hi)))) ];
    })
  ],
) where
  before : (k : ℕ) → k + 1 ≡ first → p k ≡ false
  before k e = grind (arith, cut k, run.before k, run.begins)

-- masks of the set and blocks of its keys
open_blocks : (p : ℕ → Bool) (m : BitMask) → IsOpenBlock p m ↔ IsOpenMask (λ u. p (mirror u)) m
open_blocks p m = (
  λ o. record {
    is_mask = o.is_mask;
    short = o.short;
    open_throughout = (keys_open p m o.is_mask o.short).0 o.passes;
    maximal = elim o.maximal [ inl z ↦ inl z | inr out ↦ inr (λ all. out ((parent_open o.is_mask o.short).1 all)) ];
  },
  λ o. record {
    is_mask = o.is_mask;
    short = o.short;
    passes = (keys_open p m o.is_mask o.short).1 o.open_throughout;
    maximal = elim o.maximal [ inl z ↦ inl z | inr out ↦ inr (λ pass. out ((parent_open o.is_mask o.short).0 pass)) ];
  },
) where
  parent_open : IsMask m → m.len ≤ 56 → AllKeysPass p (parent m) ↔ AllOpen (λ u. p (mirror u)) (parent m)
  parent_open is short = let pos = pow_pos (m.len - 1) in keys_open p (parent m) (omega arith, omega arith) (omega arith)

-- once no key is left, they are all
pub all_opened : (es : List (ℕ × ℕ)) (keys : List ℕ) (b : ℕ) → ((k : ℕ) → b ≤ k → is_left es keys k ≡ false) → (m : BitMask) → IsOpenBelow (is_left es keys) b m ↔ IsOpenMask (without_keys (is_open_in es) keys) m
all_opened es keys b none m = (
  λ w. (open_blocks (is_left es keys) m).0 w.0,
  λ o.
      let block = (open_blocks (is_left es keys) m).1 o in
      let t = first_passes (is_left es keys) m block.passes in
      (block, grind (arith, none (mirror m.value), t)),
)

-- the maximal masks of one length more
pub maximal_of_len : (from to len : ℕ) (a b : Option BitMask) → IfSome a (IsMaximalAt from to len 1) → ((m : BitMask) → IsMaximalAt from to len 1 m → a ≡ Some m) → IfSome b (IsMaximalAt from to len 0) → ((m : BitMask) → IsMaximalAt from to len 0 m → b ≡ Some m) → (m : BitMask)
    → ((IsMaximalIn from to m × (m.len < len)) ⊎ (a ≡ Some m)) ⊎ (b ≡ Some m) ↔ IsMaximalIn from to m × (m.len < len + 1)
maximal_of_len from to len a b odd only_odd even only_even m = (
  λ w. elim w [
    | inl v ↦ elim v [ inl old ↦ (old.0, omega (arith, old.1)) | inr e ↦ told 1 a odd e ]
    | inr e ↦ told 0 b even e
  ],
  λ g. elim (cases_lt m.len len) [
    | inl lt ↦ inl (inl (g.0, lt))
    | inr le ↦ elim (cases_eq (mirror_bits len m.value % 2) 0) [
      | inl z ↦ inr (only_even m (record { maximal = g.0; len_is = omega (arith, g.1); side = z }))
      | inr one ↦ inl (inr (only_odd m (record { maximal = g.0; len_is = omega (arith, g.1); side = omega arith })))
    ]
  ],
) where
  told : (side : ℕ) (o : Option BitMask) → IfSome o (IsMaximalAt from to len side) → o ≡ Some m → IsMaximalIn from to m × (m.len < len + 1)
  told side o some e = let g : IsMaximalAt from to len side m = subst (λ (x : Option BitMask). IfSome x (IsMaximalAt from to len side)) e some in (g.maximal, omega (arith, g.len_is))
