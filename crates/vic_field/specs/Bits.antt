-- Bits of words, each word with the stretch that its bits belong to.
use Rattle.std.specs.Prelude.{◌≡◌, ℕ, ◌*◌, ◌/◌, ◌%◌, ◌<◌, ◌≤◌, Bool, true, ◌&&◌, ◌||◌, List, length, slice_index_or, nat_eq}
use Rattle.std.specs.Int.{bit_at}
use Rattle.std.specs.List.{All}
use Rattle.vic_field.specs.declared.quiet.Word.{Word}
use Rattle.vic_field.specs.declared.quiet.TheConstants.{WORD}

-- a word with no bits
abbrev pub blank : Word
blank = record { bits = 0; stretch = 0 }

-- bit k of words is set, if its word belongs to stretch s
abbrev pub is_set : ℕ → List Word → ℕ → Bool
is_set s ws k =
    let w = slice_index_or ws (k / WORD) blank in
    nat_eq w.stretch s && nat_eq (bit_at w.bits (k % WORD)) 1

-- all bits of word n are set
abbrev pub IsFull : ℕ → List Word → ℕ → Type 0
IsFull s ws n = (k : ℕ) → k / WORD ≡ n → is_set s ws k ≡ true

-- a bit of `notes` for each word, set if and only if the word is full
pub record NotesFull (s : ℕ) (ws notes : List Word) : Type 0 where
  pub room : length ws ≤ length notes * WORD
  pub noted : (n : ℕ) → n < length ws → IsFull s ws n → is_set s notes n ≡ true
  pub full : (n : ℕ) → is_set s notes n ≡ true → IsFull s ws n

-- no word belongs to a later stretch than this one
abbrev pub AreUpTo : ℕ → List Word → Type 0
AreUpTo s ws = All (λ w. w.stretch ≤ s) ws

-- full words and full groups are noted, and no word belongs to a later stretch than s
pub record IsSound (s : ℕ) (positions words groups : List Word) : Type 0 where
  pub full_words : NotesFull s positions words
  pub full_groups : NotesFull s words groups
  pub positions_up_to : AreUpTo s positions
  pub words_up_to : AreUpTo s words
  pub groups_up_to : AreUpTo s groups

-- these are the bits of word n that are set
abbrev pub HasBits : ℕ → List Word → ℕ → ℕ → Type 0
HasBits s ws n bits =
    (k : ℕ) → k / WORD ≡ n → is_set s ws k ≡ nat_eq (bit_at bits (k % WORD)) 1

-- this bit is set now, and the others are as they were
abbrev pub HasBitMore : ℕ → ℕ → List Word → List Word → Type 0
HasBitMore s bit old new = (k : ℕ) → is_set s new k ≡ (nat_eq k bit || is_set s old k)
