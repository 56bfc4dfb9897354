-- Lines behind the first without a fault, in another order: each has no fault of its own, and no two of their rows clash.
use Rattle.vic_table.proofs.Words.{◌≡◌, ℕ, zero, suc, ◌+◌, ◌<◌, ◌≤◌, Bool, true, false, Option, Some, None, List, [], ◌∷◌, length, get_or, slice_get, refl, sym, ap, ◌∙◌, arith, slice_get-get_or, slice_get_within, get_or_from_slice_get, option_or, is_none, nat_lt, cases_lt, cond-true, cond-false, lt-ltb, le-ltb, take_all, ◌*◌, inl, inr, if◌then◌else◌}
use Rattle.std.specs.List.{sum_by}
use Rattle.std.specs.List.Sorted.{IsPermutation}
use Rattle.std.proofs.lemmas.List.Sorted.{sum_by-IsPermutation, length_permutation}
use Rattle.std.proofs.lemmas.List.Sums.{sum_by_more_le, sum_by-le, get_or-le-sum_by}
use Rattle.vic_table.proofs.Faultless.{none_of_two, both_none}
use Rattle.vic_table.proofs.Counting.{passing, Adds, passing_more, passing_upto}
use Rattle.vic_table.specs.Lines.{bytes_fault}
use Rattle.vic_table.specs.declared.fault.TableLineFault.{TableLineFault}
use Rattle.vic_table.specs.declared.fault.TableLineFault.TheVariants as fault
use Rattle.vic_table.specs.declared.lines.TheConstants.{MAX_TABLE_LINES}

-- ---- the bytes of a line, wherever it is

pub bytes_apart : (n : ℕ) (line : List ℕ) → bytes_fault n line ≡ None → (suc n ≤ MAX_TABLE_LINES) × (bytes_fault 0 line ≡ None)
bytes_apart n line h = elim (cases_lt MAX_TABLE_LINES (suc n)) [
  | inl above ↦ let e = sym (cond-true (nat_lt MAX_TABLE_LINES (suc n)) (Some fault.TooManyLines) (bytes_fault 0 line) (lt-ltb MAX_TABLE_LINES (suc n) above)) ∙ h in cc
  | inr below ↦ (below, sym (cond-false (nat_lt MAX_TABLE_LINES (suc n)) (Some fault.TooManyLines) (bytes_fault 0 line) (le-ltb MAX_TABLE_LINES (suc n) below)) ∙ h)
]

pub bytes_there : (n : ℕ) (line : List ℕ) → suc n ≤ MAX_TABLE_LINES → bytes_fault 0 line ≡ None → bytes_fault n line ≡ None
bytes_there n line below h = cond-false (nat_lt MAX_TABLE_LINES (suc n)) (Some fault.TooManyLines) (bytes_fault 0 line) (le-ltb MAX_TABLE_LINES (suc n) below) ∙ h

-- ---- what all elements of a list have, in another order

module _ {X : Type 0} (p : X → Bool) where
  abbrev one_unless : Bool → ℕ
  one_unless b = if b then 0 else 1

  abbrev failing : X → ℕ
  failing x = one_unless (p x)

  none_fails : (xs : List X) → ((n : ℕ) (x : X) → slice_get xs n ≡ Some x → p x ≡ true) → sum_by failing xs ≡ 0
  none_fails xs h =
      let low : sum_by failing xs ≤ length xs * 0 = sum_by-le failing 0 xs (λ k d within. each k d within) in
      omega arith where
        each : (k : ℕ) (d : X) → k < length xs → failing (get_or xs k d) ≤ 0
        each k d within = rw (h k (get_or xs k d) (slice_get-get_or xs k d within)) (omega arith)

  passes : (x : X) → failing x ≡ 0 → p x ≡ true
  passes x h = go (p x) h where
    go : (b : Bool) → one_unless b ≡ 0 → b ≡ true
    go true e = refl
    go false e = absurd (omega arith)

  pub all_moved : (xs ys : List X) → IsPermutation xs ys → ((n : ℕ) (x : X) → slice_get xs n ≡ Some x → p x ≡ true) → (n : ℕ) (y : X) → slice_get ys n ≡ Some y → p y ≡ true
  all_moved xs ys m h n y at =
      let low = get_or-le-sum_by failing ys n y (slice_get_within ys n y at) in
      let zero_ = sum_by-IsPermutation failing xs ys m ∙ none_fails xs h in
      let here = ap failing (get_or_from_slice_get ys n y y at) in
      passes y (omega arith)

-- ---- rows that clash

-- a fault of a line behind rows is one of its own, or a clash with one of them: of all rows at most one may pass each test
pub record Clashes {A K : Type 0} (bare : A → A) (row : ℕ → List ℕ → List A) (is : K → A → Bool) (fault : List A → List ℕ → Option TableLineFault) : Type 0 where
  pub own : (before : List A) (line : List ℕ) → fault before line ≡ None → fault [] line ≡ None
  pub apart : (before : List A) (line : List ℕ) (k : K) → fault before line ≡ None → passing bare (is k) before ≤ 1 → passing bare (is k) before + passing bare (is k) (row 0 line) ≤ 1
  pub none : (before : List A) (line : List ℕ) → fault [] line ≡ None → ((k : K) → passing bare (is k) before + passing bare (is k) (row 0 line) ≤ 1) → fault before line ≡ None

module _ {A K : Type 0} (bare : A → A) (row : ℕ → List ℕ → List A) (upto : List (List ℕ) → ℕ → List A) (is : K → A → Bool) (fault : List A → List ℕ → Option TableLineFault)
    (a : Adds bare row upto) (f : Clashes bare row is fault) (head : List ℕ) where
  abbrev of_line : K → List ℕ → ℕ
  of_line k line = passing bare (is k) (row 0 line)

  -- the lines behind the first have no fault
  abbrev pub AreClean : List (List ℕ) → Type 0
  AreClean rest = (n : ℕ) (line : List ℕ) → slice_get rest n ≡ Some line → option_or (bytes_fault (suc n) line) (fault (upto (head ∷ rest) (suc n)) line) ≡ None

  once : (rest : List (List ℕ)) → AreClean rest → (k : K) (n : ℕ) → n ≤ length rest → passing bare (is k) (upto (head ∷ rest) (suc n)) ≤ 1
  once rest clean k zero low = let e = ap (passing bare (is k)) (a.none (head ∷ rest)) in omega arith
  once rest clean k (suc n) low =
      let line = get_or rest n [] in
      let at = slice_get-get_or rest n [] (omega arith) in
      let e = passing_more bare row upto a (is k) head rest n line at in
      let s : passing bare (is k) (upto (head ∷ rest) (suc n)) + of_line k line ≤ 1 = f.apart (upto (head ∷ rest) (suc n)) line k (none_of_two (bytes_fault (suc n) line) (fault (upto (head ∷ rest) (suc n)) line) (clean n line at)).1 (once rest clean k n (omega arith)) in
      omega arith

  no_own : (rest : List (List ℕ)) → AreClean rest → (n : ℕ) (line : List ℕ) → slice_get rest n ≡ Some line → is_none (option_or (bytes_fault 0 line) (fault [] line)) ≡ true
  no_own rest clean n line at =
      let parts = none_of_two _ _ (clean n line at) in
      ap is_none (both_none (bytes_fault 0 line) (fault [] line) (bytes_apart (suc n) line parts.0).1 (f.own _ line parts.1))

  not_too_many : (rest : List (List ℕ)) → AreClean rest → (n : ℕ) → n < length rest → suc (suc n) ≤ MAX_TABLE_LINES
  not_too_many rest clean n low = (bytes_apart (suc n) (get_or rest n []) (none_of_two _ _ (clean n (get_or rest n []) (slice_get-get_or rest n [] low))).0).0

  pub clean_moved : (rest moved : List (List ℕ)) → IsPermutation rest moved → AreClean rest → AreClean moved
  clean_moved rest moved m clean n line at =
      let low = slice_get_within moved n line at in
      let long : length moved ≡ length rest = length_permutation rest moved m in
      let parts = none_of_two (bytes_fault 0 line) (fault [] line) (is_none_none _ (all_moved (λ l. is_none (option_or (bytes_fault 0 l) (fault [] l))) rest moved m (no_own rest clean) n line at)) in
      both_none _ _ (bytes_there (suc n) line (not_too_many rest clean n (omega arith)) parts.0) (f.none (upto (head ∷ moved) (suc n)) line parts.1 (apart n line at)) where
        is_none_none : {F : Type 0} (o : Option F) → is_none o ≡ true → o ≡ None
        is_none_none None h = refl
        is_none_none (Some x) h = cc

        apart : (n : ℕ) (line : List ℕ) → slice_get moved n ≡ Some line → (k : K) → passing bare (is k) (upto (head ∷ moved) (suc n)) + of_line k line ≤ 1
        apart n line at k =
            let low = slice_get_within moved n line at in
            let some = once rest clean k (length rest) (omega arith) in
            let all = passing_upto bare row upto a (is k) head rest (length rest) (omega arith) in
            let before = passing_upto bare row upto a (is k) head moved n (omega arith) in
            let more = sum_by_more_le (of_line k) moved n line low in
            let here = ap (of_line k) (get_or_from_slice_get moved n line line at) in
            let same = sum_by-IsPermutation (of_line k) rest moved m in
            let whole = ap (sum_by (of_line k)) (take_all (length rest) rest (omega arith)) in
            omega arith
