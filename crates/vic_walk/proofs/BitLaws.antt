-- Bits of words, and what is noted of the words.
use Rattle.std.proofs.Common.{◌≡◌, ◌≢◌, ℕ, ◌+◌, ◌-◌, ◌*◌, ◌/◌, ◌%◌, ◌^◌, ◌<◌, ◌≤◌, Bool, true, false, not, ◌||◌, List, Option, Some, None, length, get_or, set, refl, sym, ap, subst, ◌∙◌, arith, ⊎_elim, bit_or, w64, nat_eq, nat_lt, replicate, eq-eqb, eqb-true, get_or-set_same, get_or-set_other, shr-shr}
use Rattle.std.proofs.Math.Pow.{pow-lt}
use Rattle.std.proofs.lemmas.Bool.{and_parts, both_ways, cases_eq, cases_lt, false_from_ne_true, le-ltb, lt-ltb, ltb-true, or_cases, or_right}
use Rattle.std.proofs.lemmas.Bool.Decides.{nat_tests}
use Rattle.std.proofs.lemmas.List.{get_or-replicate, get_or_default, get_or_past, length-replicate}
use Rattle.std.proofs.lemmas.Nat.{shr_le}
use Rattle.std.proofs.lemmas.Nat.Bits.{bit_at-trailing_zeros, bit_at-zero, bit_at_above, bit_at_clear_other, bit_at_clear_same, bit_at_ones, bit_at_ones_above, bit_at_set_other, bit_at_set_same}
use Rattle.std.proofs.lemmas.Grind.{div_ceil_times}
use Rattle.std.specs.Int.{bit_at, bit_not, div_ceil, trailing_zeros}
use Rattle.std.specs.Option.{IfNone, IfSome}
use lib.Bits.{bit_and}
use Rattle.vic_walk.specs.Marked.{IsFirst, NoneBetween}
use Rattle.vic_walk.specs.inner.Bits.{AreNoted, HasNone, HasSome, IsNext, IsWith, IsWithout, is_set}

-- ---- one word

-- a bit of a word that was written
set_here : (ws : List ℕ) (n w k : ℕ) → n < length ws → k / 64 ≡ n → is_set (set ws n w) k ≡ nat_eq (bit_at w (k % 64)) 1
set_here ws n w k h e = ap (λ x. nat_eq (bit_at x (k % 64)) 1) (ap (λ m. get_or (set ws n w) m 0) e ∙ get_or-set_same ws n w 0 h)

-- and of any other word
set_elsewhere : (ws : List ℕ) (n w k : ℕ) → k / 64 ≢ n → is_set (set ws n w) k ≡ is_set ws k
set_elsewhere ws n w k h = ap (λ x. nat_eq (bit_at x (k % 64)) 1) (get_or-set_other ws n (k / 64) w 0 h)

-- the number with one bit
abbrev pub bit_of : ℕ → ℕ
bit_of bit = 1 * 2 ^ (bit % 64) % 2 ^ 64

pub set_bit : (ws : List ℕ) (bit w : ℕ) → bit / 64 < length ws → w ≡ get_or ws (bit / 64) w → IsWith bit ws (set ws (bit / 64) (bit_or w (bit_of bit)))
set_bit ws bit w h e k = grind (arith, nat_tests, e ∙ get_or_default ws (bit / 64) w 0 h, set_here ws (bit / 64) (bit_or w (bit_of bit)) k h, set_elsewhere ws (bit / 64) (bit_or w (bit_of bit)) k, bit_at_set_same w64 w (bit % 64), bit_at_set_other w64 w (bit % 64))

pub clear_bit : (ws : List ℕ) (bit w : ℕ) → bit / 64 < length ws → w ≡ get_or ws (bit / 64) w → IsWithout bit ws (set ws (bit / 64) (bit_and w (bit_not w64 (bit_of bit))))
clear_bit ws bit w h e k = grind (arith, nat_tests, e ∙ get_or_default ws (bit / 64) w 0 h, set_here ws (bit / 64) (bit_and w (bit_not w64 (bit_of bit))) k h, set_elsewhere ws (bit / 64) (bit_and w (bit_not w64 (bit_of bit))) k, bit_at_clear_same w64 w (bit % 64), bit_at_clear_other w64 w (bit % 64))

-- no bit of a word that is 0 is set
pub none_in_zero : (ws : List ℕ) (k : ℕ) → get_or ws (k / 64) 0 ≡ 0 → is_set ws k ≡ false
none_in_zero ws k e = ap (λ w. nat_eq (bit_at w (k % 64)) 1) e ∙ ap (λ b. nat_eq b 1) (bit_at-zero (k % 64))

pub none_past : (ws : List ℕ) (k : ℕ) → length ws ≤ k / 64 → is_set ws k ≡ false
none_past ws k h = none_in_zero ws k (get_or_past ws (k / 64) 0 h)

-- ---- the first bits

ones_here : (ws : List ℕ) (bits n k : ℕ) → n < length ws → k / 64 ≡ n → bits / 64 ≡ n → is_set (set ws n (2 ^ (bits % 64) - 1)) k ≡ nat_lt k bits
ones_here ws bits n k within at here = set_here ws n (2 ^ (bits % 64) - 1) k within at ∙ ⊎_elim
    (λ (low : k % 64 < bits % 64). eq-eqb _ 1 (bit_at_ones (bits % 64) (k % 64) low) ∙ sym (lt-ltb k bits (omega (arith, at, here, low))))
    (λ (high : bits % 64 ≤ k % 64). ap (λ b. nat_eq b 1) (bit_at_ones_above (bits % 64) (k % 64) high) ∙ sym (le-ltb k bits (omega (arith, at, here, high))))
    (cases_lt (k % 64) (bits % 64))

-- as many words as they need, all bits of which are set
first_bits : (ws : List ℕ) (n bits k : ℕ) → ws ≡ replicate n (2 ^ 64 - 1) → bits ≤ n * 64 → n ≤ bits / 64 → is_set ws k ≡ nat_lt k bits
first_bits ws n bits k e room none = ap (λ v. is_set v k) e ∙ ⊎_elim
    (λ (within : k / 64 < n). ap (λ w. nat_eq (bit_at w (k % 64)) 1) (get_or-replicate n (k / 64) (2 ^ 64 - 1) 0 within) ∙ eq-eqb _ 1 (bit_at_ones 64 (k % 64) (omega arith)) ∙ sym (lt-ltb k bits (omega (arith, within, none))))
    (λ (past : n ≤ k / 64). none_past _ k (let size = length-replicate {A = ℕ} n (2 ^ 64 - 1) in omega (arith, size, past)) ∙ sym (le-ltb k bits (omega (arith, past, room))))
    (cases_lt (k / 64) n)

-- and a last one with the rest of them
pub first_bits_and_rest : (ws : List ℕ) (bits k : ℕ) → ws ≡ set (replicate (bits / 64 + 1) (2 ^ 64 - 1)) (bits / 64) (bit_of bits - 1) → is_set ws k ≡ nat_lt k bits
first_bits_and_rest ws bits k e =
    let small : 2 ^ (bits % 64) < 2 ^ 64 = (let lt : bits % 64 < 64 = omega arith in pow-lt lt) in
    let one : bit_of bits ≡ 2 ^ (bits % 64) = omega (arith, small) in
    let all = replicate (bits / 64 + 1) (2 ^ 64 - 1) in
    let size : length all ≡ bits / 64 + 1 = length-replicate {A = ℕ} (bits / 64 + 1) (2 ^ 64 - 1) in
    ap (λ v. is_set v k) (e ∙ ap (λ w. set all (bits / 64) (w - 1)) one) ∙ ⊎_elim
    (λ (here : k / 64 ≡ bits / 64). ones_here all bits (bits / 64) k (omega (arith, size)) here refl)
    (λ (other : k / 64 ≢ bits / 64). set_elsewhere all (bits / 64) (2 ^ (bits % 64) - 1) k other ∙ ⊎_elim
    (λ (low : k / 64 < bits / 64). first_bits all (bits / 64 + 1) ((bits / 64 + 1) * 64) k refl (omega arith) (omega arith) ∙ lt-ltb k ((bits / 64 + 1) * 64) (omega (arith, low)) ∙ sym (lt-ltb k bits (omega (arith, low))))
    (λ (high : bits / 64 ≤ k / 64). none_past all k (omega (arith, size, high, other)) ∙ sym (le-ltb k bits (omega (arith, high, other))))
    (cases_lt (k / 64) (bits / 64)))
    (cases_eq (k / 64) (bits / 64))

-- a bit noted for each of the first words
pub first_noted : (ws notes : List ℕ) (bits : ℕ) → ((k : ℕ) → is_set ws k ≡ nat_lt k bits) → ((k : ℕ) → is_set notes k ≡ nat_lt k (div_ceil bits 64)) → length ws ≤ length notes * 64 → AreNoted ws notes
first_noted ws notes bits all noted room =
    let up = div_ceil_times bits 64 (omega arith) in
    record {
      noted = λ k is. noted (k / 64) ∙ lt-ltb (k / 64) _ (let lt = ltb-true k bits (sym (all k) ∙ is) in omega (arith, lt, up.0));
      found = λ n is. let lt = ltb-true n _ (sym (noted n) ∙ is) in (n * 64, omega arith, all (n * 64) ∙ lt-ltb (n * 64) bits (omega (arith, lt, up.1)));
      room = room;
    }

-- ---- no bits

pub blank : (n k : ℕ) (ws : List ℕ) → ws ≡ replicate n 0 → is_set ws k ≡ false
blank n k ws e = none_in_zero ws k (ap (λ v. get_or v (k / 64) 0) e ∙ ⊎_elim
    (λ (inside : k / 64 < n). get_or-replicate {A = ℕ} n (k / 64) 0 0 inside)
    (λ (past : n ≤ k / 64). let size = length-replicate {A = ℕ} n 0 in get_or_past (replicate {A = ℕ} n 0) (k / 64) 0 (omega (arith, size, past)))
    (cases_lt (k / 64) n))

pub blank_noted : (ws notes : List ℕ) → ((k : ℕ) → is_set ws k ≡ false) → ((k : ℕ) → is_set notes k ≡ false) → length ws ≤ length notes * 64 → AreNoted ws notes
blank_noted ws notes none unnoted room = record {
  noted = λ k is. absurd (both_ways _ (none k) is);
  found = λ n is. absurd (both_ways _ (unnoted n) is);
  room = room;
}

-- ---- the first bit from a bit on

shifted : (w r i : ℕ) → bit_at (w / 2 ^ r) i ≡ bit_at w (r + i)
shifted w r i = ap (λ n. n % 2) (shr-shr w r i)

-- what is left of a word from bit r on, and its lowest bit
record IsLowest (w r t : ℕ) : Type 0 where
  within : r + t < 64
  one : bit_at w (r + t) ≡ 1
  zeros : (i : ℕ) → i < t → bit_at w (r + i) ≡ 0

lowest : (w r : ℕ) → w < 2 ^ 64 → 0 < w / 2 ^ r → IsLowest w r (trailing_zeros w64 (w / 2 ^ r))
lowest w r small some =
    let low = shr_le w r in
    let t = bit_at-trailing_zeros w64 (w / 2 ^ r) some (omega arith) in
    let one : bit_at w (r + trailing_zeros w64 (w / 2 ^ r)) ≡ 1 = sym (shifted w r _) ∙ t.1 in
    record {
      within = ⊎_elim (λ (near : r + trailing_zeros w64 (w / 2 ^ r) < 64). near) (λ (far : 64 ≤ r + trailing_zeros w64 (w / 2 ^ r)). let zero_ = bit_at_above w 64 _ small far in absurd (omega (arith, one, zero_))) (cases_lt (r + trailing_zeros w64 (w / 2 ^ r)) 64);
      one = one;
      zeros = λ i h. sym (shifted w r i) ∙ t.2 i h;
    }

-- bit k of the word of a bit, by how far it is above that bit
ahead : (ws : List ℕ) (from w k : ℕ) → w ≡ get_or ws (from / 64) 0 → from ≤ k → k / 64 ≡ from / 64 → is_set ws k ≡ nat_eq (bit_at w (from % 64 + (k - from))) 1
ahead ws from w k e le at =
    let within : k % 64 ≡ from % 64 + (k - from) = omega (arith, le, at) in
    ap (λ n. nat_eq (bit_at (get_or ws n 0) (k % 64)) 1) at ∙ ap (λ n. nat_eq (bit_at (get_or ws (from / 64) 0) n) 1) within ∙ ap (λ v. nat_eq (bit_at v (from % 64 + (k - from))) 1) (sym e)

pub first_here : (ws : List ℕ) (from w : ℕ) → w ≡ get_or ws (from / 64) 0 → w < 2 ^ 64 → w / 2 ^ (from % 64) ≢ 0 → IsFirst (is_set ws) from (from + trailing_zeros w64 (w / 2 ^ (from % 64)))
first_here ws from w e small some =
    let t = trailing_zeros w64 (w / 2 ^ (from % 64)) in
    let low = lowest w (from % 64) small (omega arith) in
    let within : from % 64 + t < 64 = low.within in
    record {
      from = omega arith;
      passes =
          let at : (from + t) / 64 ≡ from / 64 = omega (arith, within) in
          let back : from + t - from ≡ t = omega arith in
          ahead ws from w (from + t) e (omega arith) at ∙ rw back (eq-eqb _ 1 low.one);
      before = λ k le lt.
          let at : k / 64 ≡ from / 64 = omega (arith, within, le, lt) in
          ahead ws from w k e le at ∙ ap (λ b. nat_eq b 1) (low.zeros (k - from) (omega (arith, le, lt)));
    }

pub first_fits : (from w : ℕ) → w < 2 ^ 64 → from < 2 ^ 64 → w / 2 ^ (from % 64) ≢ 0 → from + trailing_zeros w64 (w / 2 ^ (from % 64)) < 2 ^ 64
first_fits from w small fits some = let within = (lowest w (from % 64) small (omega arith)).within in omega (arith, within)

pub none_ahead : (ws : List ℕ) (from w : ℕ) → w ≡ get_or ws (from / 64) 0 → w / 2 ^ (from % 64) ≡ 0 → NoneBetween (is_set ws) from (from / 64 * 64 + 64)
none_ahead ws from w e zero_ k le lt =
    let at : k / 64 ≡ from / 64 = omega (arith, le, lt) in
    ahead ws from w k e le at ∙ ap (λ b. nat_eq b 1) (sym (shifted w (from % 64) (k - from)) ∙ ap (λ n. bit_at n (k - from)) zero_ ∙ bit_at-zero (k - from))

-- ---- a word that was written

pub emptied : (ws : List ℕ) (n w : ℕ) → n < length ws → w ≡ 0 → HasNone (set ws n w) n
emptied ws n w h e k at = set_here ws n w k h at ∙ ap (λ v. nat_eq (bit_at v (k % 64)) 1) e ∙ ap (λ b. nat_eq b 1) (bit_at-zero (k % 64))

pub not_emptied : (ws : List ℕ) (n w : ℕ) → n < length ws → w < 2 ^ 64 → w ≢ 0 → HasSome (set ws n w) n
not_emptied ws n w h small some =
    let t = trailing_zeros w64 (w / 2 ^ 0) in
    let low = lowest w 0 small (omega arith) in
    let within : 0 + t < 64 = low.within in
    let at : (n * 64 + t) / 64 ≡ n = omega (arith, within) in
    let place : (n * 64 + t) % 64 ≡ 0 + t = omega (arith, within) in
    (n * 64 + t, at, set_here ws n w (n * 64 + t) h at ∙ rw place (eq-eqb _ 1 low.one))

-- ---- what is noted of words

pub noted_with : (bit : ℕ) (ws new notes after : List ℕ) → IsWith bit ws new → IsWith (bit / 64) notes after → length new ≡ length ws → length after ≡ length notes → AreNoted ws notes → AreNoted new after
noted_with bit ws new notes after more note size note_size i = record {
  noted = λ k is. grind (arith, nat_tests, is, more k, note (k / 64), i.noted k);
  found = λ n is. ⊎_elim
      (λ (here : nat_eq n (bit / 64) ≡ true). (bit, sym (eqb-true n (bit / 64) here), more bit ∙ ap (λ b. b || is_set ws bit) (eq-eqb bit bit refl)))
      (λ (old : is_set notes n ≡ true). let one = i.found n old in (one.0, one.1, more one.0 ∙ or_right _ _ one.2))
      (or_cases _ _ (sym (note n) ∙ is));
  room = let room = i.room in omega (arith, size, note_size, room);
}

-- a bit of another word is still there
still_some : (bit n : ℕ) (ws new : List ℕ) → IsWithout bit ws new → n ≢ bit / 64 → HasSome ws n → HasSome new n
still_some bit n ws new less other one = (one.0, one.1, less one.0 ∙ grind (arith, nat_tests, one.1, one.2))

pub noted_emptied : (bit : ℕ) (ws new notes after : List ℕ) → IsWithout bit ws new → HasNone new (bit / 64) → IsWithout (bit / 64) notes after → length new ≡ length ws → length after ≡ length notes → AreNoted ws notes → AreNoted new after
noted_emptied bit ws new notes after less none note size note_size i = record {
  noted = λ k is. grind (arith, nat_tests, is, less k, none k, note (k / 64), i.noted k);
  found = λ n is.
      let parts = and_parts (not (nat_eq n (bit / 64))) (is_set notes n) (sym (note n) ∙ is) in
      still_some bit n ws new less (grind (arith, nat_tests, parts.0)) (i.found n parts.1);
  room = let room = i.room in omega (arith, size, note_size, room);
}

pub noted_left : (bit : ℕ) (ws new notes : List ℕ) → IsWithout bit ws new → HasSome new (bit / 64) → length new ≡ length ws → AreNoted ws notes → AreNoted new notes
noted_left bit ws new notes less some size i = record {
  noted = λ k is. i.noted k (and_parts _ _ (sym (less k) ∙ is)).1;
  found = λ n is. ⊎_elim
      (λ (here : n ≡ bit / 64). subst (HasSome new) (sym here) some)
      (λ (other : n ≢ bit / 64). still_some bit n ws new less other (i.found n is))
      (cases_eq n (bit / 64));
  room = let room = i.room in omega (arith, size, room);
}

-- ---- the first one from a number on

pub none_on : (test : ℕ → Bool) (from mid to : ℕ) → NoneBetween test from mid → NoneBetween test mid to → NoneBetween test from to
none_on test from mid to low high k le lt = ⊎_elim (λ (below : k < mid). low k le below) (λ (above : mid ≤ k). high k above lt) (cases_lt k mid)

-- where none comes before
pub first_on : (test : ℕ → Bool) (from mid p : ℕ) → from ≤ mid → NoneBetween test from mid → IsFirst test mid p → IsFirst test from p
first_on test from mid p le none first = record {
  from = omega (arith, first.from);
  passes = first.passes;
  before = none_on test from mid p none first.before;
}

-- no bit is set in words that aren't noted
unnoted : (ws notes : List ℕ) (k : ℕ) → AreNoted ws notes → is_set notes (k / 64) ≡ false → is_set ws k ≡ false
unnoted ws notes k i none = false_from_ne_true _ (λ is. both_ways _ none (i.noted k is))

pub none_noted : (ws notes : List ℕ) (from : ℕ) → AreNoted ws notes → NoneBetween (is_set ws) from (from / 64 * 64 + 64) → ((n : ℕ) → from / 64 + 1 ≤ n → is_set notes n ≡ false) → (k : ℕ) → from ≤ k → is_set ws k ≡ false
none_noted ws notes from i here none k le = ⊎_elim
    (λ (below : k < from / 64 * 64 + 64). here k le below)
    (λ (above : from / 64 * 64 + 64 ≤ k). unnoted ws notes k i (none (k / 64) (omega (arith, above))))
    (cases_lt k (from / 64 * 64 + 64))

-- none before the first word that is noted
pub none_before : (ws notes : List ℕ) (from n : ℕ) → AreNoted ws notes → NoneBetween (is_set ws) from (from / 64 * 64 + 64) → IsFirst (is_set notes) (from / 64 + 1) n → NoneBetween (is_set ws) from (n * 64)
none_before ws notes from n i here first k le lt = ⊎_elim
    (λ (below : k < from / 64 * 64 + 64). here k le below)
    (λ (above : from / 64 * 64 + 64 ≤ k). unnoted ws notes k i (first.before (k / 64) (omega (arith, above)) (omega (arith, lt))))
    (cases_lt k (from / 64 * 64 + 64))

-- a word that is noted isn't empty
pub not_none : (ws : List ℕ) (n : ℕ) → HasSome ws n → NoneBetween (is_set ws) (n * 64) (n * 64 / 64 * 64 + 64) → ⊥
not_none ws n some none = let at = some.1 in both_ways _ (none some.0 (omega (arith, at)) (omega (arith, at))) some.2

-- a word that is noted is one of the words
pub number_below : (ws : List ℕ) (n : ℕ) → HasSome ws n → n < length ws
number_below ws n some = ⊎_elim
    (λ (below : n < length ws). below)
    (λ (past : length ws ≤ n). let at = some.1 in absurd (both_ways _ (none_past ws some.0 (omega (arith, at, past))) some.2))
    (cases_lt n (length ws))

-- the first bit of the first word that is noted
pub next_noted : (ws notes : List ℕ) (from n : ℕ) (found : Option ℕ) → AreNoted ws notes → NoneBetween (is_set ws) from (from / 64 * 64 + 64) → IsFirst (is_set notes) (from / 64 + 1) n
    → IfSome found (IsFirst (is_set ws) (n * 64)) → IfNone found (NoneBetween (is_set ws) (n * 64) (n * 64 / 64 * 64 + 64)) → IsNext (is_set ws) from found
next_noted ws notes from n (Some p) i here first some none = let le = first.from in first_on (is_set ws) from (n * 64) p (omega (arith, le)) (none_before ws notes from n i here first) some
next_noted ws notes from n None i here first some none = absurd (not_none ws n (i.found n first.passes) none)
