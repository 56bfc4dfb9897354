-- A complete binary tree of numbers, in which spans of leaves are raised by one.
use Rattle.vic_margin.proofs.Words.{◌≡◌, ℕ, zero, suc, ◌+◌, ◌*◌, ◌/◌, ◌%◌, ◌^◌, ◌<◌, ◌≤◌, ◌==◌, ◌&&◌, ◌||◌, Bool, true, false, List, length, slice_index, slice_set, get_or-set_other, get_or-set_same, get_or_default, inl, inr, refl, ap, ◌∙◌, arith, nat_tests, cases_lt, get_or, get_or-replicate, get_or_past, length-replicate, replicate, ⊎_elim}
use Rattle.vic_margin.specs.UidMargins.{one_if}
use Rattle.vic_margin.specs.inner.Trees.{count_in, sum_up, within}
use Prim.Native.Nat.{min}

-- of the nodes of a row from `low` on and before `high`, node n is raised itself: it is at an end,
-- and its parent has a node outside
abbrev pub is_raised : ℕ → ℕ → ℕ → Bool
is_raised low high n = (n == low && low % 2 == 1) || (n + 1 == high && high % 2 == 1)

-- d levels down, one is added to the sums of the nodes from `low` on and before `high`; nothing
-- changes below that level
pub record Adds (d low high : ℕ) (old new : List ℕ) : Type 0 where
  pub below : (n : ℕ) → 2 ^ d ≤ n → slice_index new n ≡ slice_index old n
  pub sums : (n : ℕ) → n < 2 ^ d → 2 ^ d ≤ n * 2
      → sum_up new d n ≡ sum_up old d n + one_if (within low high n)

-- ---- sums

-- a change above a node's number isn't on its way up
sum_same : (old new : List ℕ) (d n : ℕ) → ((m : ℕ) → m ≤ n → slice_index new m ≡ slice_index old m) → sum_up new d n ≡ sum_up old d n
sum_same old new zero n h = refl
sum_same old new (suc d) n h = rw (h n (omega arith), sum_same old new d (n / 2) (λ m le. h m (omega (arith, le)))) refl

pub sum_next : (nodes : List ℕ) (d e n : ℕ) → d ≡ suc e → sum_up nodes d n ≡ slice_index nodes n + sum_up nodes e (n / 2)
sum_next nodes d e n is = rw is refl

pub sum_none : (nodes : List ℕ) (d n : ℕ) → ((m : ℕ) → slice_index nodes m ≡ 0) → sum_up nodes d n ≡ 0
sum_none nodes zero n h = refl
sum_none nodes (suc d) n h = let e = sum_none nodes d (n / 2) h in let f = h n in omega arith

pub zero_at : (n m : ℕ) (xs : List ℕ) → xs ≡ replicate n 0 → slice_index xs m ≡ 0
zero_at n m xs e = ap (λ v. get_or v m 0) e ∙ ⊎_elim
    (λ (inside : m < n). get_or-replicate {A = ℕ} n m 0 0 inside)
    (λ (past : n ≤ m). let size = length-replicate {A = ℕ} n 0 in get_or_past (replicate {A = ℕ} n 0) m 0 (omega (arith, size, past)))
    (cases_lt m n)

pub below_pow : (n : ℕ) → n < 2 ^ n
below_pow zero = omega arith
below_pow (suc n) = let h = below_pow n in omega arith

-- ---- one level up

-- a number of which one is added
pub one_more : (xs : List ℕ) (k v n : ℕ) → k < length xs → v ≡ get_or xs k v → slice_index (slice_set xs k (v + 1)) n ≡ slice_index xs n + one_if (n == k)
one_more xs k v n lt is = grind (arith, nat_tests, get_or-set_same xs k (v + 1) 0 lt, get_or-set_other xs k n (v + 1) 0, get_or_default xs k v 0 lt)

-- of a row of nodes, all but those that are raised are those below the parents
halves : (low high n : ℕ) → low < high → one_if (is_raised low high n) + one_if (within (low / 2 + low % 2) (high / 2) (n / 2)) ≡ one_if (within low high n)
halves low high n lt = grind (arith, nat_tests)

outside : (low high n : ℕ) → low < high → high ≤ n → one_if (is_raised low high n) ≡ 0
outside low high n lt le = grind (arith, nat_tests)

before : (low high n : ℕ) → low < high → n < low → one_if (is_raised low high n) ≡ 0
before low high n lt le = grind (arith, nat_tests)

at_most_one : (b : Bool) → one_if b ≤ 1
at_most_one true = omega arith
at_most_one false = omega arith

within_none : (low high n : ℕ) → high ≤ low → one_if (within low high n) ≡ 0
within_none low high n le = grind (arith, nat_tests)

pub adds_none : (d low high : ℕ) (xs : List ℕ) → high ≤ low → Adds d low high xs xs
adds_none d low high xs le = record {
  below = λ n ge. refl;
  sums = λ n lt ge. omega (arith, within_none low high n le);
}

-- the sum of a node d + 1 levels down, of which the row has an end or not
sum_step : (d low high n : ℕ) (old mid new : List ℕ) → low < high → high ≤ 2 * 2 ^ d → 2 * 2 ^ d ≤ low * 2
    → ((m : ℕ) → slice_index mid m ≡ slice_index old m + one_if (is_raised low high m))
    → Adds d (low / 2 + low % 2) (high / 2) mid new → n < 2 * 2 ^ d → 2 ^ d ≤ n
    → slice_index new n + sum_up new d (n / 2) ≡ (slice_index old n + sum_up old d (n / 2)) + one_if (within low high n)
sum_step zero low high n old mid new lt room level raised h n_lt n_ge =
    let here = h.below n n_ge in
    let it = raised n in
    let half = halves low high n lt in
    let none : one_if (within (low / 2 + low % 2) (high / 2) (n / 2)) ≡ 0 = grind (arith, nat_tests) in
    omega arith
sum_step (suc d) low high n old mid new lt room level raised h n_lt n_ge =
    let here = h.below n n_ge in
    let it = raised n in
    let half = halves low high n lt in
    let up = h.sums (n / 2) (omega arith) (omega arith) in
    let same : sum_up mid (suc d) (n / 2) ≡ sum_up old (suc d) (n / 2) = sum_same old mid (suc d) (n / 2) (λ m le. let e = raised m in let no = before low high m lt (omega arith) in omega arith) in
    omega arith

pub adds_step : (d low high : ℕ) (old mid new : List ℕ) → low < high → high ≤ 2 ^ suc d → 2 ^ suc d ≤ low * 2
    → ((m : ℕ) → slice_index mid m ≡ slice_index old m + one_if (is_raised low high m))
    → Adds d (low / 2 + low % 2) (high / 2) mid new → Adds (suc d) low high old new
adds_step d low high old mid new lt room level raised h = record {
  below = λ n ge. let here = h.below n (omega (arith, ge)) in let it = raised n in let no = outside low high n lt (omega (arith, ge, room)) in omega arith;
  sums = λ n n_lt n_ge. sum_step d low high n old mid new lt (omega (arith, room)) (omega (arith, level)) raised h (omega (arith, n_lt)) (omega (arith, n_ge));
}

-- ---- on the way up

-- e levels down there is a row left to raise; with it, the whole span is raised. Nodes before `high`
-- are as they were, and none has more than one more
pub record IsOnWay (d from to low high : ℕ) (old now : List ℕ) : Type 0 where
  pub e : ℕ
  pub row : high ≤ 2 ^ e
  pub level : 2 ^ e ≤ low * 2
  pub rest : (new : List ℕ) → Adds e low high now new → Adds d from to old new
  pub room : length now ≡ length old
  pub high_room : high ≤ length old
  pub same : (n : ℕ) → n < high → slice_index now n ≡ slice_index old n
  pub most : (n : ℕ) → slice_index now n ≤ slice_index old n + 1

pub way_start : (d from to : ℕ) (xs : List ℕ) → to ≤ 2 ^ d → 2 ^ d ≤ from * 2 → to ≤ length xs → IsOnWay d from to from to xs xs
way_start d from to xs row level room = record { e = d; row = row; level = level; rest = λ new h. h; room = refl; high_room = room; same = λ n lt. refl; most = λ n. omega arith }

raised_most : (d from to low high n : ℕ) (old now new : List ℕ) → low < high → slice_index new n ≡ slice_index now n + one_if (is_raised low high n) → IsOnWay d from to low high old now → slice_index new n ≤ slice_index old n + 1
raised_most d from to low high n old now new lt e h = elim (cases_lt n high) [
  | inl below ↦ let s = h.same n below in let one = at_most_one (is_raised low high n) in omega arith
  | inr above ↦ let no = outside low high n lt above in let m = h.most n in omega arith
]

way_next : (e d from to low high : ℕ) (old now new : List ℕ) → low < high → high ≤ 2 ^ e → 2 ^ e ≤ low * 2 → length new ≡ length now
    → ((n : ℕ) → slice_index new n ≡ slice_index now n + one_if (is_raised low high n))
    → ((end : List ℕ) → Adds e low high now end → Adds d from to old end) → IsOnWay d from to low high old now → IsOnWay d from to (low / 2 + low % 2) (high / 2) old new
way_next zero d from to low high old now new lt row level room raised rest h = absurd (omega (arith, lt, row, level))
way_next (suc e) d from to low high old now new lt row level room raised rest h = record {
  e = e;
  row = omega (arith, row);
  level = omega (arith, level);
  rest = λ end k. rest end (adds_step e low high now new end lt row level raised k);
  room = room ∙ h.room;
  high_room = let r = h.high_room in omega arith;
  same = λ n below. let e = raised n in let no = before low high n lt (omega (arith, below, row, level)) in let s = h.same n (omega (arith, below)) in omega arith;
  most = λ n. raised_most d from to low high n old now new lt (raised n) h;
}

pub way_step : (d from to low high : ℕ) (old now new : List ℕ) → low < high → length new ≡ length now
    → ((n : ℕ) → slice_index new n ≡ slice_index now n + one_if (is_raised low high n))
    → IsOnWay d from to low high old now → IsOnWay d from to (low / 2 + low % 2) (high / 2) old new
way_step d from to low high old now new lt room raised h = way_next h.e d from to low high old now new lt h.row h.level room raised h.rest h

pub way_end : (d from to low high : ℕ) (old now : List ℕ) → high ≤ low → IsOnWay d from to low high old now → Adds d from to old now
way_end d from to low high old now le h = h.rest now (adds_none h.e low high now le)

-- ---- the leaves

leaf_within : (leaves from to p : ℕ) → within (leaves + min from to) (leaves + to) (leaves + p) ≡ within from to p
leaf_within leaves from to p = elim (cases_lt from to) [
  | inl some ↦ let first : min from to ≡ from = omega arith in rw first (grind (arith, nat_tests))
  | inr none ↦ let first : min from to ≡ to = omega arith in rw first (grind (arith, nat_tests))
]

pub count_raised : (levels leaves from to p : ℕ) (old new : List ℕ) → leaves * 2 ≡ 2 ^ levels → p < leaves → Adds levels (leaves + min from to) (leaves + to) old new → count_in new levels leaves p ≡ count_in old levels leaves p + one_if (within from to p)
count_raised levels leaves from to p old new half lt h = h.sums (leaves + p) (omega (arith, half, lt)) (omega (arith, half)) ∙ ap (λ b. sum_up old levels (leaves + p) + one_if b) (leaf_within leaves from to p)

-- no count is raised by more than one
pub few_raised : (n from to p raised : ℕ) (m : ℕ) → m ≡ n + one_if (within from to p) → n ≤ raised → m ≤ raised + 1
few_raised n from to p raised m is le = let one = at_most_one (within from to p) in omega arith
