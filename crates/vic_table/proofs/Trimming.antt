-- A cell without its last byte.
use Rattle.vic_table.proofs.Words.{◌≡◌, ℕ, List, [], ◌∷◌, ◌++◌, true, false, arith, nat_tests, list_all-append}
use Rattle.vic_table.specs.Contents.{is_space, trimmed_end}

pub trimmed_end-space : (cell : List ℕ) (b : ℕ) → is_space b ≡ true → trimmed_end (cell ++ b ∷ []) ≡ trimmed_end cell
trimmed_end-space [] b h = grind (arith, nat_tests)
trimmed_end-space (x ∷ cell) b h = grind (arith, nat_tests, list_all-append, trimmed_end-space cell b h)

pub trimmed_end-kept : (cell : List ℕ) (b : ℕ) → is_space b ≡ false → trimmed_end (cell ++ b ∷ []) ≡ cell ++ b ∷ []
trimmed_end-kept [] b h = grind (arith, nat_tests)
trimmed_end-kept (x ∷ cell) b h = grind (arith, nat_tests, list_all-append, trimmed_end-kept cell b h)
