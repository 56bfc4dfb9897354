-- Bits of words, and what they say of positions.
use Rattle.vic_field.proofs.Words.{◌≡◌, ◌≢◌, ℕ, ◌+◌, ◌-◌, ◌*◌, ◌/◌, ◌%◌, ◌^◌, ◌<◌, ◌≤◌, Bool, true, false, List, length, get_or, set, replicate, refl, sym, ap, subst, ◌∙◌, ◌&&◌, ◌||◌, ◌⊎◌, arith, ⊎_elim, bit_or, w64, add-zero, nat_eq, nat_lt, eq-eqb, eqb-true, ne_eqb, get_or-set_same, get_or-set_other, shr-shr, nat_tests, both_ways, cases_lt, cases_eq, bit_at, trailing_ones, and_parts, or_cases, or_right, get_or_past, or_lt, shr_le, bit_at_above, bit_at_ones, bit_at-trailing_ones, bit_at_set_same, bit_at_set_other, same_from_bits_below, AreUpTo, IsFull, IsSound, NotesFull, blank, is_set, HasBitMore, HasBits, All-replicate, length-replicate}
use Rattle.vic_field.specs.declared.quiet.Word.{Word}

-- no bit is set in a stretch after those of all words
pub none_later : (t s k : ℕ) (ws : List Word) → AreUpTo t ws → t < s → is_set s ws k ≡ false
none_later t s k ws up later = grind (arith, nat_tests, up (k / 64) blank, get_or_past ws (k / 64) blank)

pub all_blank : (n : ℕ) (ws : List Word) → ws ≡ replicate n blank → AreUpTo 0 ws × (length ws ≡ n)
all_blank n ws e = (subst (AreUpTo 0) (sym e) (All-replicate (λ (w : Word). w.stretch ≤ 0) n blank (omega arith)), ap length e ∙ length-replicate n blank)

-- ---- ones of a number from a bit on

shifted : (b r i : ℕ) → bit_at (b / 2 ^ r) i ≡ bit_at b (r + i)
shifted b r i = ap (λ n. n % 2) (shr-shr b r i)

-- those at its end
low_ones : (n : ℕ) → n < 2 ^ 64 → ((i : ℕ) → i < trailing_ones w64 n → bit_at n i ≡ 1) × (trailing_ones w64 n ≡ 0 → bit_at n 0 ≡ 0)
unfolding lib.Count.count_trailing_zeros
low_ones n small = ⊎_elim
    (λ (below : n + 1 < 2 ^ 64). let ends = bit_at-trailing_ones w64 n below in (ends.2, λ e. rw e at ends.1))
    (λ (top : 2 ^ 64 ≤ n + 1). let all : n ≡ 2 ^ 64 - 1 = omega arith in rw all (bit_at_ones 64, λ e. absurd (omega arith)))
    (cases_lt (n + 1) (2 ^ 64))

pub ones : (b r : ℕ) → b < 2 ^ 64 → (i : ℕ) → i < trailing_ones w64 (b / 2 ^ r) → bit_at b (r + i) ≡ 1
ones b r small i h = let low = shr_le b r in sym (shifted b r i) ∙ (low_ones (b / 2 ^ r) (omega arith)).0 i h

pub ones_end : (b r : ℕ) → b < 2 ^ 64 → trailing_ones w64 (b / 2 ^ r) ≡ 0 → bit_at b r ≡ 0
ones_end b r small e = let low = shr_le b r in rw add-zero at (sym (shifted b r 0) ∙ (low_ones (b / 2 ^ r) (omega arith)).1 e)

pub ones_within : (b r : ℕ) → b < 2 ^ 64 → r < 64 → r + trailing_ones w64 (b / 2 ^ r) ≤ 64
ones_within b r small lt = ⊎_elim
    (λ (far : 64 < r + trailing_ones w64 (b / 2 ^ r)).
    let one = ones b r small (64 - r) (omega (arith, far, lt)) in
    let zero_ = bit_at_above b 64 (r + (64 - r)) small (omega arith) in
    omega (arith, one, zero_))
    (λ (near : r + trailing_ones w64 (b / 2 ^ r) ≤ 64). near)
    (cases_lt 64 (r + trailing_ones w64 (b / 2 ^ r)))

-- ---- bits of words

-- a word with one bit more
abbrev pub with_bit : ℕ → ℕ → ℕ → Word
with_bit s bit b = record { bits = bit_or b (1 * 2 ^ (bit % 64) % 2 ^ 64); stretch = s }

set_here : (s bit b k : ℕ) (ws : List Word) → bit / 64 < length ws → k / 64 ≡ bit / 64 → is_set s (set ws (bit / 64) (with_bit s bit b)) k ≡ nat_eq (bit_at (with_bit s bit b).bits (k % 64)) 1
set_here s bit b k ws h e =
    let here : get_or (set ws (bit / 64) (with_bit s bit b)) (k / 64) blank ≡ with_bit s bit b = ap (λ n. get_or (set ws (bit / 64) (with_bit s bit b)) n blank) e ∙ get_or-set_same ws (bit / 64) (with_bit s bit b) blank h in
    rw (here, eq-eqb s s refl) refl

pub set_bit : (s bit b : ℕ) (ws : List Word) → bit / 64 < length ws → HasBits s ws (bit / 64) b → HasBitMore s bit ws (set ws (bit / 64) (with_bit s bit b))
set_bit s bit b ws h bits k = grind (arith, nat_tests, set_here s bit b k ws h, bits k, bit_at_set_same w64 b (bit % 64), bit_at_set_other w64 b (bit % 64), get_or-set_other ws (bit / 64) (k / 64) (with_bit s bit b) blank)

pub set_full : (s bit b k : ℕ) (ws : List Word) → bit / 64 < length ws → (with_bit s bit b).bits ≡ 2 ^ 64 - 1 → k / 64 ≡ bit / 64 → is_set s (set ws (bit / 64) (with_bit s bit b)) k ≡ true
set_full s bit b k ws h all e = set_here s bit b k ws h e ∙ eq-eqb _ 1 (ap (λ n. bit_at n (k % 64)) all ∙ bit_at_ones 64 (k % 64) (omega arith))

-- all bits of a word are set only where the number is all ones
pub full_bits : (s bit b : ℕ) (ws : List Word) → bit / 64 < length ws → b < 2 ^ 64 → IsFull s (set ws (bit / 64) (with_bit s bit b)) (bit / 64) → (with_bit s bit b).bits ≡ 2 ^ 64 - 1
full_bits s bit b ws h small full = same_from_bits_below 64 _ (2 ^ 64 - 1) (or_lt 64 b (1 * 2 ^ (bit % 64) % 2 ^ 64) small (omega arith)) (omega arith) (λ i lt.
    let number : (bit / 64 * 64 + i) / 64 ≡ bit / 64 = omega (arith, lt) in
    let within : (bit / 64 * 64 + i) % 64 ≡ i = omega (arith, lt) in
    subst (λ n. bit_at (with_bit s bit b).bits n ≡ 1) within (eqb-true _ 1 (sym (set_here s bit b _ ws h number) ∙ full _ number)) ∙ sym (bit_at_ones 64 i lt))

-- ---- full words, and what is noted of them

-- what isn't noted isn't full
pub unnoted : (s n : ℕ) (ws notes : List Word) → NotesFull s ws notes → n < length ws → is_set s notes n ≡ false → IsFull s ws n → ⊥
unnoted s n ws notes f lt none full = both_ways _ none (f.noted n lt full)

-- in a stretch after those of all words none is full, and none is noted
none_noted : (t s : ℕ) (ws notes : List Word) → AreUpTo t ws → AreUpTo t notes → t < s → length ws ≤ length notes * 64 → NotesFull s ws notes
none_noted t s ws notes up notes_up later room = record {
  room = room;
  noted = λ n lt full. absurd (both_ways _ (none_later t s (n * 64) ws up later) (full (n * 64) (omega arith)));
  full = λ n is k at. absurd (both_ways _ (none_later t s n notes notes_up later) is);
}

-- words of earlier stretches alone are sound, and say nothing
pub sound_later : (t s : ℕ) (positions words groups : List Word) → t < s → AreUpTo t positions → AreUpTo t words → AreUpTo t groups
    → length positions ≤ length words * 64 → length words ≤ length groups * 64 → IsSound s positions words groups
sound_later t s positions words groups later positions_up words_up groups_up room word_room = record {
  full_words = none_noted t s _ _ positions_up words_up later room;
  full_groups = none_noted t s _ _ words_up groups_up later word_room;
  positions_up_to = λ k d. omega (arith, positions_up k d);
  words_up_to = λ k d. omega (arith, words_up k d);
  groups_up_to = λ k d. omega (arith, groups_up k d);
}

others : (s bit n : ℕ) (ws new : List Word) → HasBitMore s bit ws new → n ≢ bit / 64 → IsFull s new n → IsFull s ws n
others s bit n ws new more other full k at = sym (more k ∙ ap (λ (b : Bool). b || is_set s ws k) (ne_eqb k bit (λ e. other (sym at ∙ ap (λ m. m / 64) e)))) ∙ full k at

-- a bit more, and the word noted where it is full now
pub noted_after : (s bit : ℕ) (is_full : Bool) (ws new notes after : List Word) → HasBitMore s bit ws new → ((k : ℕ) → is_set s after k ≡ ((is_full && nat_eq k (bit / 64)) || is_set s notes k)) → length new ≡ length ws → length after ≡ length notes
    → (is_full ≡ true → IsFull s new (bit / 64)) → (IsFull s new (bit / 64) → is_full ≡ true) → NotesFull s ws notes → NotesFull s new after
noted_after s bit is_full ws new notes after more note size long full noted i = record {
  room = rw (size, long) i.room;
  noted = λ n lt is. note n ∙ ⊎_elim
      (λ (same : n ≡ bit / 64). rw (eq-eqb n (bit / 64) same, noted (λ k at. is k (at ∙ sym same))) refl)
      (λ (other : n ≢ bit / 64). or_right _ _ (i.noted n (subst (λ m. n < m) size lt) (others s bit n ws new more other is)))
      (cases_eq n (bit / 64));
  full = λ n is k at. ⊎_elim
      (λ (here : (is_full && nat_eq n (bit / 64)) ≡ true). let parts = and_parts _ _ here in full parts.0 k (at ∙ eqb-true n (bit / 64) parts.1))
      (λ (old : is_set s notes n ≡ true). more k ∙ or_right _ _ (i.full n old k at))
      (or_cases _ _ (sym (note n) ∙ is));
}

-- ---- a position more

-- of the first positions, up to the one before `next`, those from `gap` on are one further
pub record IsGapped (gap next : ℕ) (old new : ℕ → Bool) : Type 0 where
  pub before : (k : ℕ) → k < gap → new k ≡ (nat_lt (k + 1) next && old k)
  pub put : new gap ≡ false
  pub after : (k : ℕ) → gap ≤ k → new (k + 1) ≡ (nat_lt (k + 1) next && old k)

pub none_gapped : (gap : ℕ) (old new : ℕ → Bool) → ((k : ℕ) → new k ≡ false) → IsGapped gap 1 old new
none_gapped gap old new none = grind (arith, nat_tests, none)

-- one position further, which isn't Quiet
pub gapped_ready : (gap next : ℕ) (old new : ℕ → Bool) → ((k : ℕ) → k + 1 ≡ next → old k ≡ false) → IsGapped gap next old new → IsGapped gap (next + 1) old new
gapped_ready gap next old new ready i = grind (arith, nat_tests)

-- one position further, which is Quiet, and stands at `to` now
pub gapped_quiet : (gap next to : ℕ) (old was new : ℕ → Bool) → ((k : ℕ) → k + 1 ≡ next → old k ≡ true) → ((to + 1 ≡ next) × (to < gap)) ⊎ ((to ≡ next) × (gap < next))
    → ((k : ℕ) → new k ≡ (nat_eq k to || was k)) → IsGapped gap next old was → IsGapped gap (next + 1) old new
gapped_quiet gap next to old was new quiet position added i = grind (arith, nat_tests)
