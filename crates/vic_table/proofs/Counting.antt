-- The rows of a table that pass a test, counted without the numbers of their lines.
use Rattle.vic_table.proofs.Words.{◌≡◌, ℕ, zero, suc, ◌+◌, ◌<◌, ◌≤◌, Bool, Some, List, [], ◌∷◌, ◌++◌, length, take, get_or, map, slice_get, sym, ap, ◌∙◌, arith, map-append, take_all, slice_get-get_or, add-one, if◌then◌else◌}
use Rattle.std.specs.List.{count_by, sum_by}
use Rattle.std.proofs.lemmas.List.Sums.{sum_by_more, sum_by-append}

-- how many of these rows pass, without their numbers
abbrev pub passing : {A : Type 0} → (A → A) → (A → Bool) → List A → ℕ
passing bare test rows = count_by test (map bare rows)

-- the rows of the lines behind the first, one line after another; their numbers alone differ
pub record Adds {A : Type 0} (bare : A → A) (row : ℕ → List ℕ → List A) (upto : List (List ℕ) → ℕ → List A) : Type 0 where
  pub same : (n : ℕ) (line : List ℕ) → map bare (row n line) ≡ map bare (row 0 line)
  pub none : (lines : List (List ℕ)) → upto lines 1 ≡ []
  pub more : (lines : List (List ℕ)) (n : ℕ) (line : List ℕ) → slice_get lines (suc n) ≡ Some line → upto lines (suc (suc n)) ≡ upto lines (suc n) ++ row (suc (suc n)) line

pub passing-append : {A : Type 0} (bare : A → A) (test : A → Bool) (xs ys : List A) → passing bare test (xs ++ ys) ≡ passing bare test xs + passing bare test ys
passing-append bare test xs ys = ap (count_by test) (map-append bare xs ys) ∙ sum_by-append (λ x. if test x then 1 else 0) (map bare xs) (map bare ys)

module _ {A : Type 0} (bare : A → A) (row : ℕ → List ℕ → List A) (upto : List (List ℕ) → ℕ → List A) (a : Adds bare row upto) (test : A → Bool) (head : List ℕ) (rest : List (List ℕ)) where
  abbrev of_line : List ℕ → ℕ
  of_line line = passing bare test (row 0 line)

  pub passing_more : (n : ℕ) (line : List ℕ) → slice_get rest n ≡ Some line → passing bare test (upto (head ∷ rest) (suc (suc n))) ≡ passing bare test (upto (head ∷ rest) (suc n)) + of_line line
  passing_more n line at =
      ap (passing bare test) (a.more (head ∷ rest) n line at)
      ∙ (passing-append bare test (upto (head ∷ rest) (suc n)) (row (suc (suc n)) line)
      ∙ ap (λ k. passing bare test (upto (head ∷ rest) (suc n)) + k) (ap (count_by test) (a.same (suc (suc n)) line)))

  pub passing_upto : (n : ℕ) → n ≤ length rest → passing bare test (upto (head ∷ rest) (suc n)) ≡ sum_by of_line (take n rest)
  passing_upto zero low = ap (passing bare test) (a.none (head ∷ rest))
  passing_upto (suc n) low =
      passing_more n (get_or rest n []) (slice_get-get_or rest n [] (omega arith))
      ∙ (ap (λ k. k + of_line (get_or rest n [])) (passing_upto n (omega arith)) ∙ sym (next n (omega arith))) where
        next : (n : ℕ) → n < length rest → sum_by of_line (take (suc n) rest) ≡ sum_by of_line (take n rest) + of_line (get_or rest n [])
        next n low = rw add-one at (sum_by_more of_line rest n [] low)

  pub passing_all : passing bare test (upto (head ∷ rest) (length (head ∷ rest))) ≡ sum_by of_line rest
  passing_all =
      let e : length (head ∷ rest) ≡ suc (length rest) = omega arith in
      ap (λ n. passing bare test (upto (head ∷ rest) n)) e
      ∙ (passing_upto (length rest) (omega arith) ∙ ap (sum_by of_line) (take_all (length rest) rest (omega arith)))
