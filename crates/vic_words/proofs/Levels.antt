-- What the words after each command's name come to: the operands that it takes, and no others.
use Rattle.std.proofs.Common.{◌≡◌, ◌∙◌, ◌<◌, ◌≤◌, Bool, true, false, List, [], ◌∷◌, length, Option, Some, None, refl, sym, ap, subst, arith, codes, unwrap_or}
use Rattle.std.specs.Bool.{⊤}
use Rattle.clap.specs.Walk.{Row, Text, first_of, nothing_held, rows_after}
use Rattle.clap.specs.Simple.{Shape}
use Rattle.clap.specs.Lexer.{usize_max}
use Rattle.clap.specs.Faults.{level_fault}
use Rattle.vic_words.specs.Words.{HasFile, after_operand, is_end_of_options, is_option, operands_of}
use Rattle.vic_words.specs.inner.Found.{words_found}
use Rattle.vic_words.proofs.Leaf.{AllUtf8, Level, Levels, level_is}
use Rattle.vic_words.proofs.Shapes as shapes
use Rattle.vic_words.proofs.Shapes.{one_shape, words_shape}

abbrev pub fault_at : Shape → List Text → List Rattle.clap.specs.declared.error.kind.ErrorKind.ErrorKind
fault_at s words = level_fault s [] nothing_held words false []

abbrev pub rows_at : Shape → List Text → List Row
rows_at s words = rows_after s.rules [] words

-- there are no more operands than words
abbrev Within : List Text → Option (List Text) → Type 0
Within words None = ⊤
Within words (Some operands) = length operands ≤ length words

within_all : (words : List Text) → Within words (operands_of words)
within_all [] = omega arith
within_all (x ∷ xs) = go (within_all xs) (is_end_of_options x) (is_option x) refl refl
  where
    more : (q : Option (List Text)) → Within xs q → Within (x ∷ xs) (after_operand x q)
    more None h = tt
    more (Some operands) h = omega arith

    go : Within xs (operands_of xs) → (end option : Bool) → is_end_of_options x ≡ end → is_option x ≡ option → Within (x ∷ xs) (operands_of (x ∷ xs))
    go h true option e f = rw e (omega arith)
    go h false true e f = rw (e, f) tt
    go h false false e f = rw (e, f) (more (operands_of xs) h)

pub operands_within : (words operands : List Text) → operands_of words ≡ Some operands → length operands ≤ length words
operands_within words operands e = subst (Within words) e (within_all words)

-- ---- one file or none

pub file_given : (n : Text) (words : List Text) → AllUtf8 words → fault_at (one_shape n (codes "file") false) words ≡ []
    → HasFile words (first_of (codes "file") (rows_at (one_shape n (codes "file") false) words))
file_given n words utf8 none = go (operands_of words) refl (level_is (one_shape n (codes "file") false) (shapes.one_is_leaf n (codes "file") false) words utf8)
  where
    go : (q : Option (List Text)) → operands_of words ≡ q → Levels (one_shape n (codes "file") false) words q
        → HasFile words (first_of (codes "file") (rows_at (one_shape n (codes "file") false) words))
    go None e h = absurd (h none)
    go (Some []) e h = subst (HasFile words) (sym (ap (first_of (codes "file")) h.rows)) e
    go (Some (a ∷ [])) e h = subst (HasFile words) (sym (ap (first_of (codes "file")) h.rows)) e
    go (Some (a ∷ b ∷ r)) e h = absurd (shapes.two_files n a b r (sym h.fault ∙ none))

pub file_asked : (n : Text) (words : List Text) (file : Option Text) → AllUtf8 words → HasFile words file
    → (fault_at (one_shape n (codes "file") false) words ≡ []) × (first_of (codes "file") (rows_at (one_shape n (codes "file") false) words) ≡ file)
file_asked n words None utf8 e =
    let h : Level (one_shape n (codes "file") false) words [] = subst (Levels (one_shape n (codes "file") false) words) e (level_is (one_shape n (codes "file") false) (shapes.one_is_leaf n (codes "file") false) words utf8) in
    (h.fault ∙ shapes.no_file n, ap (first_of (codes "file")) h.rows)
file_asked n words (Some a) utf8 e =
    let h : Level (one_shape n (codes "file") false) words (a ∷ []) = subst (Levels (one_shape n (codes "file") false) words) e (level_is (one_shape n (codes "file") false) (shapes.one_is_leaf n (codes "file") false) words utf8) in
    (h.fault ∙ shapes.one_file n a, ap (first_of (codes "file")) h.rows)

-- ---- one word of hex digits

pub hex_given : (n : Text) (words : List Text) (hex : Text) → AllUtf8 words → fault_at (one_shape n (codes "hex") true) words ≡ []
    → first_of (codes "hex") (rows_at (one_shape n (codes "hex") true) words) ≡ Some hex → operands_of words ≡ Some (hex ∷ [])
hex_given n words hex utf8 none found = go (operands_of words) refl (level_is (one_shape n (codes "hex") true) (shapes.one_is_leaf n (codes "hex") true) words utf8)
  where
    one : (a : Text) → Some a ≡ Some hex → Some (a ∷ []) ≡ Some (hex ∷ [])
    one a e = cc

    go : (q : Option (List Text)) → operands_of words ≡ q → Levels (one_shape n (codes "hex") true) words q → operands_of words ≡ Some (hex ∷ [])
    go None e h = absurd (h none)
    go (Some []) e h = absurd (shapes.no_hex n (sym h.fault ∙ none))
    go (Some (a ∷ [])) e h = e ∙ one a (sym (ap (first_of (codes "hex")) h.rows) ∙ found)
    go (Some (a ∷ b ∷ r)) e h = absurd (shapes.two_hexes n a b r (sym h.fault ∙ none))

pub hex_asked : (n : Text) (words : List Text) (hex : Text) → AllUtf8 words → operands_of words ≡ Some (hex ∷ [])
    → (fault_at (one_shape n (codes "hex") true) words ≡ []) × (first_of (codes "hex") (rows_at (one_shape n (codes "hex") true) words) ≡ Some hex)
hex_asked n words a utf8 e =
    let h : Level (one_shape n (codes "hex") true) words (a ∷ []) = subst (Levels (one_shape n (codes "hex") true) words) e (level_is (one_shape n (codes "hex") true) (shapes.one_is_leaf n (codes "hex") true) words utf8) in
    (h.fault ∙ shapes.one_hex n a, ap (first_of (codes "hex")) h.rows)

-- ---- one or more words

pub words_given : (n : Text) (words : List Text) → AllUtf8 words → fault_at (words_shape n) words ≡ []
    → (operands_of words ≡ Some (words_found (rows_at (words_shape n) words))) × (0 < length (words_found (rows_at (words_shape n) words)))
words_given n words utf8 none = go (operands_of words) refl (level_is (words_shape n) (shapes.words_is_leaf n) words utf8)
  where
    go : (q : Option (List Text)) → operands_of words ≡ q → Levels (words_shape n) words q
        → (operands_of words ≡ Some (words_found (rows_at (words_shape n) words))) × (0 < length (words_found (rows_at (words_shape n) words)))
    go None e h = absurd (h none)
    go (Some []) e h = absurd (shapes.no_words n (sym h.fault ∙ none))
    go (Some (v ∷ vs)) e h =
        let found : words_found (rows_at (words_shape n) words) ≡ v ∷ vs = ap words_found h.rows ∙ ap (λ o. unwrap_or o []) (shapes.some_words_rows n v vs) in
        (e ∙ ap Some (sym found), omega (arith, ap length found))

pub words_asked : (n : Text) (words spelled : List Text) → AllUtf8 words → operands_of words ≡ Some spelled → 0 < length spelled → length words ≤ usize_max
    → (fault_at (words_shape n) words ≡ []) × (words_found (rows_at (words_shape n) words) ≡ spelled)
words_asked n words [] utf8 e some fits = absurd (omega arith)
words_asked n words (v ∷ vs) utf8 e some fits =
    let h : Level (words_shape n) words (v ∷ vs) = subst (Levels (words_shape n) words) e (level_is (words_shape n) (shapes.words_is_leaf n) words utf8) in
    (h.fault ∙ shapes.some_words n v vs (omega (arith, operands_within words (v ∷ vs) e)), ap words_found h.rows ∙ ap (λ o. unwrap_or o []) (shapes.some_words_rows n v vs))
