-- How lists of cells change.
use Rattle.vic_sets.proofs.Words.{◌≡◌, ℕ, zero, suc, ◌+◌, ◌-◌, ◌*◌, ◌^◌, ◌<◌, ◌⊎◌, inl, inr, refl, sym, ap, subst, ◌∙◌, arith, Bool, true, false, not, cond, ◌&&◌, ◌||◌, ◌==◌, List, [], ◌∷◌, ◌++◌, Contains, filter, length, get_or, take, pow_pos, mod-eq_of_lt, rules, BitMask, IsMask, IsUid, lies_in, in_cells, AreCells, cut_at, nat_tests, list_any, or_parts, cases_Bool, list_any-append, list_any_at, All-push, All-filter, All-contains, All-contains_itself, Contains-push_cases, shr_high, mod_low, Any-from_list_any, any-filter_same, div-eq_of_lt, lower_half, upper_half, or_false, IsCell, IsApart, AreApart, NoHalves, flipped}
use Rattle.vic_sets.proofs.CutLaws.{cut_parted}

-- a cell more
in_pushed : (cells : List BitMask) (m : BitMask) (u : ℕ) → in_cells (cells ++ m ∷ []) u ≡ (in_cells cells u || lies_in m u)
in_pushed cells m u = list_any-append (λ x. lies_in x u) cells (m ∷ []) ∙ ap (λ b. in_cells cells u || b) (or_false (lies_in m u))

apart_pushed : (cells : List BitMask) (m : BitMask) → AreApart cells → IsApart m cells → AreApart (cells ++ m ∷ [])
apart_pushed [] m a h = (λ u i k. refl, tt)
apart_pushed (x ∷ xs) m a h = (first, apart_pushed xs m a.1 (λ u i k. (or_parts (lies_in x u) (in_cells xs u) (h u i k)).1)) where
  first : IsApart x (xs ++ m ∷ [])
  first u i k = rw (in_pushed xs m u) (grind (arith, nat_tests, a.0 u i, h u i))

-- a mask of one bit more
abbrev pub longer : BitMask → ℕ → BitMask
longer k v = record { len = k.len + 1; value = v }

-- each half of a mask is the other one flipped
flipped_lower : (k : BitMask) → IsMask k → flipped (k.len + 1 - 1) (lower_half k) ≡ upper_half k
flipped_lower k h =
    let back : k.len + 1 - 1 ≡ k.len = omega arith in
    rw back (ap (longer k) (rw (div-eq_of_lt h.1, mod-eq_of_lt h.1) refl))

flipped_upper : (k : BitMask) → IsMask k → flipped (k.len + 1 - 1) (upper_half k) ≡ lower_half k
flipped_upper k h =
    let back : k.len + 1 - 1 ≡ k.len = omega arith in
    let is : k.value + 2 ^ k.len ≡ 1 * 2 ^ k.len + k.value = omega arith in
    rw back (ap (longer k) (rw (is, shr_high 1 k.len k.value h.1, mod_low 1 k.len k.value h.1) (omega arith)))

halves_differ : (k : BitMask) → lower_half k ≡ upper_half k → ⊥
halves_differ k e = let v = ap (λ (m : BitMask). m.value) e in let p = pow_pos k.len in omega arith

joined_pushed : (cells : List BitMask) (m : BitMask) → NoHalves cells → (0 < m.len → Contains cells (flipped (m.len - 1) m) → ⊥) → NoHalves (cells ++ m ∷ [])
joined_pushed cells m joined alone k is_mask lower upper = at_places (Contains-push_cases cells m (lower_half k) lower) (Contains-push_cases cells m (upper_half k) upper) where
  at_places : Contains cells (lower_half k) ⊎ (m ≡ lower_half k) → Contains cells (upper_half k) ⊎ (m ≡ upper_half k) → ⊥
  at_places (inl a) (inl b) = joined k is_mask a b
  at_places (inl a) (inr e) = (rw e at alone) (omega arith) (subst (Contains cells) (sym (flipped_upper k is_mask)) a)
  at_places (inr e) (inl b) = (rw e at alone) (omega arith) (subst (Contains cells) (sym (flipped_lower k is_mask)) b)
  at_places (inr e) (inr f) = halves_differ k (sym e ∙ f)

-- a cell in front, or behind
contains_cases : (x m : BitMask) (xs : List BitMask) → Contains (x ∷ xs) m → (x ≡ m) ⊎ Contains xs m
contains_cases x m xs (zero, h, e) = inl e
contains_cases x m xs (suc k, h, e) = inr (k, omega arith, e)

in_contained : (xs : List BitMask) (m : BitMask) (u : ℕ) → Contains xs m → lies_in m u ≡ true → in_cells xs u ≡ true
in_contained xs m u h k = list_any_at (λ x. lies_in x u) xs h.0 m h.1 (ap (λ x. lies_in x u) h.2 ∙ k)

-- what a test keeps
in_next : (p : BitMask → Bool) (x : BitMask) (xs : List BitMask) (u : ℕ) → in_cells (filter p (x ∷ xs)) u ≡ ((p x && lies_in x u) || in_cells (filter p xs) u)
in_next p x xs u = elim (cases_Bool (p x)) [ inl e ↦ rw e refl | inr e ↦ rw e refl ]

contains_kept : (p : BitMask → Bool) (xs : List BitMask) (m : BitMask) → Contains (filter p xs) m → Contains xs m
contains_kept p xs m h = All-contains (Contains xs) (filter p xs) m (All-filter p (Contains xs) xs (All-contains_itself xs)) h

in_kept : (p : BitMask → Bool) (xs : List BitMask) (u : ℕ) → in_cells (filter p xs) u ≡ true → in_cells xs u ≡ true
in_kept p xs u h = let one = Any-from_list_any (λ x. lies_in x u) (filter p xs) h in in_contained xs one.1 u (contains_kept p xs one.1 (one.0, one.2, one.3)) one.4

not_kept : (p : BitMask → Bool) (xs : List BitMask) (u : ℕ) → in_cells xs u ≡ false → in_cells (filter p xs) u ≡ false
not_kept p xs u h = grind (arith, nat_tests, in_kept p xs u)

apart_kept : (p : BitMask → Bool) (xs : List BitMask) → AreApart xs → AreApart (filter p xs)
apart_kept p [] a = a
apart_kept p (x ∷ xs) a = at_test (apart_kept p xs a.1) (p x) where
  at_test : AreApart (filter p xs) → (b : Bool) → AreApart (cond b (x ∷ filter p xs) (filter p xs))
  at_test rest true = (λ u i h. not_kept p xs u (a.0 u i h), rest)
  at_test rest false = rest

joined_kept : (p : BitMask → Bool) (xs : List BitMask) → NoHalves xs → NoHalves (filter p xs)
joined_kept p xs h k is_mask lower upper = h k is_mask (contains_kept p xs (lower_half k) lower) (contains_kept p xs (upper_half k) upper)

-- a UID of one cell lies in none before it
pub apart_before : (xs : List BitMask) (i : ℕ) (m : BitMask) → AreApart xs → i < length xs → get_or xs i m ≡ m → IsApart m (take i xs)
apart_before [] i m a h e u is_uid k = absurd (omega arith)
apart_before (x ∷ xs) zero m a h e u is_uid k = refl
apart_before (x ∷ xs) (suc i) m a h e u is_uid k =
    grind (arith, nat_tests, in_contained xs m u (i, omega arith, e) k, a.0 u is_uid, apart_before xs i m a.1 (omega arith) e u is_uid k)

-- the test for equal masks
abbrev pub same_mask : BitMask → BitMask → Bool
same_mask a b = (a.len == b.len) && (a.value == b.value)

is_same : (a b : BitMask) → same_mask a b ≡ true → a ≡ b
is_same a b h =
    let len : a.len ≡ b.len = grind (arith, nat_tests) in
    let value : a.value ≡ b.value = grind (arith, nat_tests) in
    search rules

same_self : (a : BitMask) → same_mask a a ≡ true
same_self a = grind (arith, nat_tests)

found : (xs : List BitMask) (m : BitMask) → list_any (λ x. same_mask x m) xs ≡ true → Contains xs m
found xs m h = let one = Any-from_list_any (λ x. same_mask x m) xs h in subst (Contains xs) (is_same one.1 m one.4) (one.0, one.2, one.3)

pub not_found : (xs : List BitMask) (m : BitMask) → list_any (λ x. same_mask x m) xs ≡ false → Contains xs m → ⊥
not_found xs m h k = cc (list_any_at (λ x. same_mask x m) xs k.0 m k.1 (ap (λ x. same_mask x m) k.2 ∙ same_self m), h)

-- all cells but one
abbrev without : BitMask → List BitMask → List BitMask
without s xs = filter (λ x. not (same_mask x s)) xs

taken_apart : (s : BitMask) (xs : List BitMask) → Contains xs s → AreApart xs → IsApart s (without s xs)
taken_apart s [] there a u i h = refl
taken_apart s (x ∷ xs) there a u i h = rw (in_next (λ m. not (same_mask m s)) x xs u) (elim (contains_cases x s xs there) [
  | inl f ↦
      let out : same_mask x s ≡ true = ap (λ m. same_mask m s) f ∙ same_self s in
      let same = ap (λ m. lies_in m u) f in
      grind (arith, nat_tests, out, same, a.0 u i, not_kept (λ m. not (same_mask m s)) xs u)
  | inr c ↦ grind (arith, nat_tests, in_contained xs s u c h, a.0 u i, taken_apart s xs c a.1 u i h)
])

kept_others : (s : BitMask) (xs : List BitMask) (u : ℕ) → lies_in s u ≡ false → in_cells (without s xs) u ≡ in_cells xs u
kept_others s xs u e = any-filter_same (λ x. lies_in x u) (λ x. not (same_mask x s)) true (λ x h. grind (arith, nat_tests)) xs

-- cells that a test keeps
kept_cells : (p : BitMask → Bool) (xs : List BitMask) → AreCells xs → AreCells (filter p xs)
kept_cells p xs h = record { are_cells = All-filter p IsCell xs h.are_cells; apart = apart_kept p xs h.apart; joined = joined_kept p xs h.joined }

-- and a cell more
pub pushed_cells : (xs : List BitMask) (m : BitMask) → AreCells xs → IsCell m → IsApart m xs → (0 < m.len → Contains xs (flipped (m.len - 1) m) → ⊥) → AreCells (xs ++ m ∷ [])
pushed_cells xs m h cell apart alone = record { are_cells = All-push IsCell xs m h.are_cells cell; apart = apart_pushed xs m h.apart apart; joined = joined_pushed xs m h.joined alone }

-- the cell that is the flipped m, a mask that lies in none of them, is taken out, and both together, the mask w, put in its place
pub record Merged (m w : BitMask) (old new : List BitMask) : Type 0 where
  pub cells : AreCells new
  pub apart : IsApart w new
  pub same : (u : ℕ) → IsUid u → (in_cells new u || lies_in w u) ≡ (in_cells old u || lies_in m u)

pub merged : (s m w : BitMask) (old new : List BitMask) → new ≡ filter (λ x. not (same_mask x s)) old → 0 < m.len → IsMask m → s ≡ flipped (m.len - 1) m → w ≡ cut_at (m.len - 1) m → list_any (λ x. same_mask x s) old ≡ true → AreCells old → IsApart m old → Merged m w old new
merged s m w old new kept pos is_mask is cut found' h apart = rw kept record {
  cells = kept_cells (λ x. not (same_mask x s)) old h;
  apart = λ u i e. grind (arith, nat_tests, parts u, apart u i, kept_others s old u, out u i, not_kept (λ x. not (same_mask x s)) old u);
  same = λ u i. grind (arith, nat_tests, parts u, kept_others s old u, out u i, in_contained old s u there);
} where
  there : Contains old s
  there = found old s found'

  out : IsApart s (without s old)
  out = taken_apart s old there h.apart

  parts : (u : ℕ) → lies_in w u ≡ (lies_in m u || lies_in s u)
  parts u = ap (λ x. lies_in x u) cut ∙ cut_parted m u is_mask pos ∙ ap (λ x. lies_in m u || lies_in x u) (sym is)

-- x a UID was there before, c it lies in the cells, h it is among the UIDs so far, e it is the next of them
pub next_added : (x c h e : Bool) → (e ≡ true → c ≡ true) → ((x || (c && h)) || e) ≡ (x || (c && (h || e)))
next_added x c h e k = grind (arith, nat_tests)

pub next_there : (x c h e : Bool) → (e ≡ true → c ≡ true → (x || (c && h)) ≡ true) → (x || (c && h)) ≡ (x || (c && (h || e)))
next_there x c h e k = grind (arith, nat_tests)

-- t a UID lies in the cells so far, x in the next one, k in the mask
pub next_outside : (t x k : Bool) → ((t && not k) || (x && not k)) ≡ ((t || x) && not k)
next_outside t x k = grind (arith, nat_tests)

-- x a UID was there before, c it lies in the cell, k in the mask
pub rest_added : (x c k : Bool) → (x || (c && not (c && k))) ≡ (x || (c && not k))
rest_added x c k = grind (arith, nat_tests)
