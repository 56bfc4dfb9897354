-- Sets of numbers, by the bits of words.
use Rattle.std.proofs.Common.{◌≡◌, ◌≢◌, ℕ, ◌+◌, ◌<◌, ◌≤◌, ◌/◌, ◌^◌, Bool, true, false, cond, List, Option, Some, None, length, get_or, nat_lt, set, replicate, sym, ap, subst, ◌∙◌, arith, ⊎_elim, nat_eq, eq-eqb, eqb-true, ne_eqb, get_or-set_same, get_or-set_other, length-set}
use Rattle.std.proofs.lemmas.Bool.{and_parts, both_ways, cases_eq, cases_lt, false_from_ne_true, lt-ltb, ltb-true, or_cases}
use Rattle.std.proofs.lemmas.Bool.Decides.{nat_tests}
use Rattle.std.proofs.lemmas.Grind.{div_ceil_times}
use Rattle.std.proofs.lemmas.List.{get_or-replicate, get_or_past, length-replicate}
use Rattle.std.proofs.lemmas.List.FromFn.{fill_by_all, get_or-map-range_with_len, length-map-range_with_len}
use Rattle.std.specs.Int.{div_ceil}
use Rattle.vic_walk.proofs.BitLaws.{blank_noted, first_noted, noted_with}
use Rattle.vic_walk.specs.Marked.{is_marked}
use Rattle.vic_walk.specs.inner.Bits.{AreMarks, AreNoted, IsNext, IsWith, IsWithout, is_set, marked_in}

-- the numbers of the set by its bits
marked_is : (count k : ℕ) (bits : List ℕ) → ((j : ℕ) → is_set bits j ≡ true → j < count) → is_marked (marked_in count bits) k ≡ is_set bits k
marked_is count k bits below = ⊎_elim
    (λ (inside : k < count). get_or-map-range_with_len (is_set bits) 0 count k k false inside (omega arith))
    (λ (past : count ≤ k). let size = length-map-range_with_len (is_set bits) 0 count in get_or_past (marked_in count bits) k false (omega (arith, size, past)) ∙ sym (false_from_ne_true _ (λ is. let lt = below k is in absurd (omega (arith, lt, past)))))
    (cases_lt k count)

-- what is said of the bits holds of the set
pub same_marks : (count k : ℕ) (bits : List ℕ) (marks : List Bool) → ((j : ℕ) → is_set bits j ≡ true → j < count) → marked_in count bits ≡ marks → is_marked marks k ≡ is_set bits k
same_marks count k bits marks below is = ap (λ m. is_marked m k) (sym is) ∙ marked_is count k bits below

pub next_marked : (count from : ℕ) (next : Option ℕ) (bits : List ℕ) (marks : List Bool) → ((j : ℕ) → is_set bits j ≡ true → j < count) → marked_in count bits ≡ marks → IsNext (is_set bits) from next → IsNext (is_marked marks) from next
next_marked count from (Some p) bits marks below is first = record {
  from = first.from;
  passes = same_marks count p bits marks below is ∙ first.passes;
  before = λ k le lt. same_marks count k bits marks below is ∙ first.before k le lt;
}
next_marked count from None bits marks below is none = λ k le. same_marks count k bits marks below is ∙ none k le

-- ---- one number written

marked_set : (count p : ℕ) (b : Bool) (old new : List ℕ) → p < count → ((k : ℕ) → is_set new k ≡ cond (nat_eq k p) b (is_set old k)) → marked_in count new ≡ set (marked_in count old) p b
marked_set count p b old new within is =
    let marks = marked_in count old in
    let size : length marks ≡ count = length-map-range_with_len (is_set old) 0 count in
    sym (fill_by_all (is_set new) (set marks p b) count false (length-set marks p b ∙ size) (λ k lt. ⊎_elim
    (λ (here : k ≡ p). ap (λ n. get_or (set marks p b) n false) here ∙ get_or-set_same marks p b false (omega (arith, size, within)) ∙ sym (is k ∙ ap (λ t. cond t b (is_set old k)) (eq-eqb k p here)))
    (λ (there : k ≢ p). get_or-set_other marks p k b false there ∙ get_or-map-range_with_len (is_set old) 0 count k k false lt (omega arith) ∙ sym (is k ∙ ap (λ t. cond t b (is_set old k)) (ne_eqb k p there)))
    (cases_eq k p)))

pub marked_with : (count p : ℕ) (old new : List ℕ) → p < count → IsWith p old new → marked_in count new ≡ set (marked_in count old) p true
marked_with count p old new within more = marked_set count p true old new within (λ k. grind (arith, nat_tests, more k))

pub marked_without : (count p : ℕ) (old new : List ℕ) → p < count → IsWithout p old new → marked_in count new ≡ set (marked_in count old) p false
marked_without count p old new within less = marked_set count p false old new within (λ k. grind (arith, nat_tests, less k))

-- a number of the set is below its count
pub below_count : (count p : ℕ) (bits : List ℕ) (marks : List Bool) → marked_in count bits ≡ marks → p < length marks → p < count
below_count count p bits marks is lt = subst (λ n. p < n) (ap length (sym is) ∙ length-map-range_with_len (is_set bits) 0 count) lt

-- ---- bits, and words that aren't 0

pub marks_with : (count p : ℕ) (bits words ps ws : List ℕ) → p < count → IsWith p bits ps → IsWith (p / 64) words ws → length ps ≡ length bits → length ws ≡ length words → AreMarks count bits words → AreMarks count ps ws
marks_with count p bits words ps ws within more more_words size word_size i = record {
  fits = i.fits;
  below = λ k is. ⊎_elim
      (λ (here : nat_eq k p ≡ true). subst (λ n. n < count) (sym (eqb-true k p here)) within)
      (λ (old : is_set bits k ≡ true). i.below k old)
      (or_cases _ _ (sym (more k) ∙ is));
  noted = noted_with p bits ps words ws more more_words size word_size i.noted;
  room = size ∙ i.room;
}

-- one bit fewer, of which no more is known than that the words are noted
pub marks_without : (count p : ℕ) (bits words ps ws : List ℕ) → IsWithout p bits ps → AreNoted ps ws → length ps ≡ length bits → AreMarks count bits words → AreMarks count ps ws
marks_without count p bits words ps ws less noted size i = record {
  fits = i.fits;
  below = λ k is. i.below k (and_parts _ _ (sym (less k) ∙ is)).1;
  noted = noted;
  room = size ∙ i.room;
}

-- ---- none, and all

pub none_marked : (count : ℕ) (bits : List ℕ) → ((k : ℕ) → is_set bits k ≡ false) → marked_in count bits ≡ replicate count false
none_marked count bits none = sym (fill_by_all (is_set bits) (replicate count false) count false (length-replicate count false) (λ k lt. get_or-replicate count k false false lt ∙ sym (none k)))

pub blank_marks : (count : ℕ) (bits words : List ℕ) → count < 2 ^ 64 → ((k : ℕ) → is_set bits k ≡ false) → ((k : ℕ) → is_set words k ≡ false) → length bits ≡ count / 64 + 1 → length words ≡ count / 64 / 64 + 1 → AreMarks count bits words
blank_marks count bits words fits none no_words size word_size = record {
  fits = fits;
  below = λ k is. absurd (both_ways _ (none k) is);
  noted = blank_noted bits words none no_words (omega (arith, size, word_size));
  room = size;
}

pub marked_below : (count : ℕ) (bits : List ℕ) → ((k : ℕ) → is_set bits k ≡ nat_lt k count) → marked_in count bits ≡ replicate count true
marked_below count bits all = sym (fill_by_all (is_set bits) (replicate count true) count false (length-replicate count true) (λ k lt. get_or-replicate count k true false lt ∙ sym (all k ∙ lt-ltb k count lt)))

pub all_below : (count : ℕ) (bits words : List ℕ) → count < 2 ^ 64 → ((k : ℕ) → is_set bits k ≡ nat_lt k count) → ((k : ℕ) → is_set words k ≡ nat_lt k (div_ceil count 64)) → length bits ≡ count / 64 + 1 → length words ≡ div_ceil count 64 / 64 + 1 → AreMarks count bits words
all_below count bits words fits all all_words size word_size =
    let up = div_ceil_times count 64 (omega arith) in
    record {
      fits = fits;
      below = λ k is. ltb-true k count (sym (all k) ∙ is);
      noted = first_noted bits words count all all_words (omega (arith, size, word_size, up.0));
      room = size;
    }
