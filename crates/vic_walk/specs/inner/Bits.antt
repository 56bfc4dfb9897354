-- Bits of words, and bits of other words that note which of the words aren't 0.
use Rattle.std.specs.Prelude.{◌≡◌, ℕ, ◌+◌, ◌*◌, ◌/◌, ◌%◌, ◌^◌, ◌<◌, ◌≤◌, Bool, true, false, not, ◌&&◌, ◌||◌, Option, Some, None, List, length, map, slice_index, nat_eq}
use Rattle.std.specs.Int.{bit_at}
use Rattle.std.specs.List.{range_with_len}
use Rattle.vic_walk.specs.Marked.{IsFirst}
use Rattle.vic_walk.specs.declared.marks.TheConstants.{WORD}

-- bit k of words; none past the end is set
abbrev pub is_set : List ℕ → ℕ → Bool
is_set ws k = nat_eq (bit_at (slice_index ws (k / WORD)) (k % WORD)) 1

-- the first number, from `from` on, that passes; None if there is none
abbrev pub IsNext : (ℕ → Bool) → ℕ → Option ℕ → Type 0
IsNext test from (Some p) = IsFirst test from p
IsNext test from None = (k : ℕ) → from ≤ k → test k ≡ false

-- word n has a bit that is set
abbrev pub HasSome : List ℕ → ℕ → Type 0
HasSome ws n = (k : ℕ) × (k / WORD ≡ n) × (is_set ws k ≡ true)

-- no bit of word n is set
abbrev pub HasNone : List ℕ → ℕ → Type 0
HasNone ws n = (k : ℕ) → k / WORD ≡ n → is_set ws k ≡ false

-- new has the bits of old, and this one
abbrev pub IsWith : ℕ → List ℕ → List ℕ → Type 0
IsWith bit old new = (k : ℕ) → is_set new k ≡ (nat_eq k bit || is_set old k)

-- new has the bits of old without this one
abbrev pub IsWithout : ℕ → List ℕ → List ℕ → Type 0
IsWithout bit old new = (k : ℕ) → is_set new k ≡ (not (nat_eq k bit) && is_set old k)

-- the number of each bit fits a usize
abbrev pub AreCounted : List ℕ → Type 0
AreCounted ws = length ws * WORD ≤ 2 ^ 64

-- a bit of `notes` for each word, set if and only if some bit of the word is
pub record AreNoted (ws notes : List ℕ) : Type 0 where
  pub noted : (k : ℕ) → is_set ws k ≡ true → is_set notes (k / WORD) ≡ true
  pub found : (n : ℕ) → is_set notes n ≡ true → HasSome ws n
  pub room : length ws ≤ length notes * WORD

-- which of the first numbers are marked
abbrev pub marked_in : ℕ → List ℕ → List Bool
marked_in count bits = map (is_set bits) (range_with_len 0 count)

-- the bits of a set of numbers below a count, with the word of the count itself, and those that
-- note which words aren't 0
pub record AreMarks (count : ℕ) (bits notes : List ℕ) : Type 0 where
  pub fits : count < 2 ^ 64
  pub below : (k : ℕ) → is_set bits k ≡ true → k < count
  pub noted : AreNoted bits notes
  pub room : length bits ≡ count / WORD + 1
