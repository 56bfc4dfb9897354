-- What the commands' own operands come to.
use Rattle.std.proofs.Common.{◌≡◌, ◌∙◌, ◌<◌, ◌≤◌, ◌==◌, ℕ, Bool, true, false, List, [], ◌∷◌, ◌++◌, length, Some, None, refl, sym, ap, ap₂, arith, codes, append-nil, append_assoc, if◌then◌else◌, ne_eqb, nat_lt}
use Rattle.std.specs.List.{fold}
use Rattle.std.proofs.lemmas.Bool.{le-ltb}
use Rattle.clap.specs.Walk.{Held, Row, finished, Rule, Text, all_of, first_of}
use Rattle.clap.specs.Simple.{Shape, built_leaf, inherited}
use Rattle.clap.specs.Lexer.{usize_max}
use Rattle.clap.specs.Kinds.{or_else, range_kinds, values_kinds}
use Rattle.clap.specs.Faults.{defaults_fault}
use Rattle.clap.specs.declared.builder.value_parser.ValueParser.TheVariants as vp
use Rattle.vic_words.specs.inner.Commands.{program, operand_command, words_command}
use Rattle.vic_words.proofs.Leaf.{IsLeaf, end_fault, has_trailing, operands_fault, operands_rows, put, put_fault}

-- ---- a command with one operand

abbrev pub one_shape : Text → Text → Bool → Shape
one_shape name id required = built_leaf (inherited program.top (operand_command name id required).top)

no_trailing : (r : Rule) (t : Bool) → r.trailing_var_arg ≡ false → has_trailing (if t then Some r else None) ≡ false
no_trailing r true e = e
no_trailing r false e = refl

pub one_is_leaf : (name id : Text) (required : Bool) → IsLeaf (one_shape name id required)
one_is_leaf name id required = record { long = λ n. refl; short = λ x. refl; plain = λ p. no_trailing _ (1 == p) refl }

pub no_file : (name : Text) → operands_fault (one_shape name (codes "file") false) [] ≡ []
unfolding defaults_fault
no_file name = refl

pub one_file : (name a : Text) → operands_fault (one_shape name (codes "file") false) (a ∷ []) ≡ []
unfolding defaults_fault
one_file name a = refl

pub two_files : (name a b : Text) (r : List Text) → operands_fault (one_shape name (codes "file") false) (a ∷ b ∷ r) ≡ [] → ⊥
unfolding defaults_fault
two_files name a b r e = omega (arith, ap length e)

pub no_hex : (name : Text) → operands_fault (one_shape name (codes "hex") true) [] ≡ [] → ⊥
unfolding defaults_fault
no_hex name e = omega (arith, ap length e)

pub one_hex : (name a : Text) → operands_fault (one_shape name (codes "hex") true) (a ∷ []) ≡ []
unfolding defaults_fault
one_hex name a = refl

pub two_hexes : (name a b : Text) (r : List Text) → operands_fault (one_shape name (codes "hex") true) (a ∷ b ∷ r) ≡ [] → ⊥
unfolding defaults_fault
two_hexes name a b r e = omega (arith, ap length e)

-- ---- the operands from there on

abbrev pub hold : List Row → List Text → Held
hold rows words = record { rows = rows; pending = Some (codes "words", words); skip = 0 }

pub range_fits : (n : ℕ) → 0 < n → n ≤ usize_max → range_kinds 1 usize_max n ≡ []
range_fits n some fits =
    let a : (n == 0) ≡ false = ne_eqb n 0 (omega arith) in
    let b : nat_lt n 1 ≡ false = le-ltb n 1 some in
    let c : nat_lt usize_max n ≡ false = le-ltb usize_max n fits in
    rw (a, b, c) refl

pub values_fit : (values : List Text) → values_kinds false vp.String values ≡ []
values_fit [] = refl
values_fit (v ∷ vs) = values_fit vs

abbrev pub words_shape : Text → Shape
words_shape name = built_leaf (inherited program.top (words_command name).top)

pub words_is_leaf : (name : Text) → IsLeaf (words_shape name)
words_is_leaf name = record { long = λ n. refl; short = λ x. refl; plain = λ p. no_trailing _ (1 == p) refl }

words_put : (name : Text) (rows : List Row) (vs ops : List Text) → fold (put (words_shape name).rules) (hold rows vs, 1) ops ≡ (hold rows (vs ++ ops), 1)
words_put name rows vs [] = ap (λ l. (hold rows l, 1)) (sym (append-nil vs))
words_put name rows vs (x ∷ xs) = words_put name rows (vs ++ x ∷ []) xs ∙ ap (λ l. (hold rows l, 1)) (append_assoc vs (x ∷ []) xs)

words_pass : (name : Text) (rows : List Row) (vs ops : List Text) → put_fault (words_shape name) (hold rows vs, 1) ops ≡ []
words_pass name rows vs [] = refl
words_pass name rows vs (x ∷ xs) = words_pass name rows (vs ++ x ∷ []) xs

words_end : (name : Text) (v : Text) (vs : List Text) → length (v ∷ vs) ≤ usize_max → end_fault (words_shape name) (hold [] (v ∷ vs)) ≡ []
unfolding defaults_fault
words_end name v vs fits = rw (range_fits (length (v ∷ vs)) (omega arith) fits, values_fit (v ∷ vs)) refl

pub no_words : (name : Text) → operands_fault (words_shape name) [] ≡ [] → ⊥
unfolding defaults_fault
no_words name e = omega (arith, ap length e)

pub some_words : (name v : Text) (vs : List Text) → length (v ∷ vs) ≤ usize_max → operands_fault (words_shape name) (v ∷ vs) ≡ []
some_words name v vs fits = ap₂ (λ k at. or_else k (end_fault (words_shape name) at.0)) (words_pass name [] (v ∷ []) vs) (words_put name [] (v ∷ []) vs)
    ∙ words_end name v vs fits

pub some_words_rows : (name v : Text) (vs : List Text) → all_of (codes "words") (operands_rows (words_shape name) (v ∷ vs)) ≡ Some (v ∷ vs)
some_words_rows name v vs = ap (λ at. all_of (codes "words") (finished (words_shape name).rules at.0)) (words_put name [] (v ∷ []) vs)

pub no_file_rows : (name : Text) → first_of (codes "file") (operands_rows (one_shape name (codes "file") false) []) ≡ None
no_file_rows name = refl

pub one_file_rows : (name a : Text) → first_of (codes "file") (operands_rows (one_shape name (codes "file") false) (a ∷ [])) ≡ Some a
one_file_rows name a = refl

pub one_hex_rows : (name a : Text) → first_of (codes "hex") (operands_rows (one_shape name (codes "hex") true) (a ∷ [])) ≡ Some a
one_hex_rows name a = refl
