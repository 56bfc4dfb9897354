-- Hex digits in a cell.
use Rattle.vic_table.proofs.Words.{◌≡◌, ◌≢◌, ℕ, ◌<◌, ◌+◌, List, [], ◌∷◌, ◌++◌, None, true, Bool, ◌||◌, refl, sym, ap, ◌∙◌, arith, nat_tests, common_steps, length, drop, take, get_or, filter, is_some, list_any, or-false, length-append, filter-append, filter_more, take-append-drop}
use Rattle.std.specs.List.{position_or_len, slice_split}
use Rattle.std.proofs.lemmas.List.Splits.{slice_split_first}
use Rattle.vic_table.specs.Contents.{hex_uid, has_uid, is_no_hex_digit, is_no_filler}

pub hex_uid-len : (digits : List ℕ) → length digits ≢ 16 → hex_uid digits ≡ None
hex_uid-len digits h = grind (arith, nat_tests)

split_whole : (p : ℕ → Bool) (cell : List ℕ) → position_or_len p cell ≡ length cell → slice_split p cell ≡ cell ∷ []
split_whole p [] h = refl
split_whole p (b ∷ cell) h = grind (arith, nat_tests, split_whole p cell)

pub has_uid-last : (cell : List ℕ) → position_or_len is_no_hex_digit cell ≡ length cell → has_uid cell ≡ is_some (hex_uid cell)
has_uid-last cell h = ap (list_any (λ run. is_some (hex_uid run))) (split_whole is_no_hex_digit cell h) ∙ or-false (is_some (hex_uid cell))

pub has_uid-next : (cell : List ℕ) → position_or_len is_no_hex_digit cell < length cell
    → has_uid cell ≡ (is_some (hex_uid (take (position_or_len is_no_hex_digit cell) cell)) || has_uid (drop (position_or_len is_no_hex_digit cell + 1) cell))
has_uid-next cell h = ap (list_any (λ run. is_some (hex_uid run))) (slice_split_first is_no_hex_digit cell 0 h)

-- one digit too many
pub filter_past : (cell : List ℕ) (i : ℕ) → i < length cell → is_no_filler (get_or cell i 0) ≡ true → length (filter is_no_filler (take i cell)) ≡ 16 → hex_uid (filter is_no_filler cell) ≡ None
filter_past cell i h d full = hex_uid-len (filter is_no_filler cell) (λ e. absurd (omega (arith, e, full, one_more, parts))) where
  one_more : length (filter is_no_filler (take (i + 1) cell)) ≡ length (filter is_no_filler (take i cell)) + 1
  one_more = grind (arith, common_steps, filter_more is_no_filler cell i 0 h)

  parts : length (filter is_no_filler cell) ≡ length (filter is_no_filler (take (i + 1) cell)) + length (filter is_no_filler (drop (i + 1) cell))
  parts = ap (λ c. length (filter is_no_filler c)) (sym (whole cell (i + 1))) ∙ (ap length (filter-append is_no_filler (take (i + 1) cell) (drop (i + 1) cell)) ∙ length-append (filter is_no_filler (take (i + 1) cell)) (filter is_no_filler (drop (i + 1) cell))) where
    whole : (xs : List ℕ) (n : ℕ) → take n xs ++ drop n xs ≡ xs
    whole xs n = take-append-drop n xs
