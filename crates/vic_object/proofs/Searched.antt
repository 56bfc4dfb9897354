-- Whether a middle is found among the keys of a mask.
use Rattle.std.proofs.Common.{◌≡◌, ◌∙◌, ℕ, ◌+◌, ◌*◌, ◌^◌, ◌-◌, ◌<◌, ◌≤◌, true, false, List, Ok, Err, nat_lt, length, get_or, sym, arith, inl, inr}
use Rattle.std.proofs.lemmas.Bool.{cases_lt}
use Rattle.std.proofs.lemmas.Bool.Decides.{nat_tests}
use Rattle.std.proofs.lemmas.List.Folds.{list_any_at, list_any_none}
use Rattle.std.proofs.lemmas.List.{get_or_default}
use Rattle.std.proofs.lemmas.List.Sorted.{searched}
use Rattle.std.specs.List.{list_any}
use Rattle.std.specs.List.Sorted.{IsBinarySearchResult, IsNonDecreasing}
use Rattle.std.specs.Ordering.{nat_cmp}
use Rattle.vic_object.specs.inner.Middles.{is_middle_in}
use Rattle.vic_frame.specs.LowBitsFirst.{mirror}
use Rattle.vic_frame.specs.Masks.{BitMask}
use Rattle.std.proofs.Common.{pow_pos}

in_order : (xs : List ℕ) → IsNonDecreasing xs → (i j : ℕ) → i ≤ j → j < length xs → get_or xs i 0 ≤ get_or xs j 0
in_order xs up i j le lt = up i j 0 le lt

pub found_exactly : (m : BitMask) (xs : List ℕ) (i x : ℕ) → x ≡ mirror m.value → IsNonDecreasing xs → IsBinarySearchResult (λ y. nat_cmp y (2 * x + 1)) xs (Ok i) → list_any (is_middle_in m) xs ≡ true
found_exactly m xs i x e up found =
    let w = searched xs (2 * x + 1) (Ok i) found (in_order xs up) in
    let pos = pow_pos (56 - m.len) in
    list_any_at (is_middle_in m) xs i 0 w.0 (grind (arith, nat_tests, w.1, pos, e))

-- the first middle behind the first key is the one to look at
found_behind : (m : BitMask) (xs : List ℕ) (i x : ℕ) → x ≡ mirror m.value → IsNonDecreasing xs → IsBinarySearchResult (λ y. nat_cmp y (2 * x + 1)) xs (Err i) → i < length xs → get_or xs i 0 < 2 * (mirror m.value + 2 ^ (56 - m.len)) → list_any (is_middle_in m) xs ≡ true
found_behind m xs i x e up found lt below =
    let w = searched xs (2 * x + 1) (Err i) found (in_order xs up) in
    let above = w.2 i (omega arith) lt in
    list_any_at (is_middle_in m) xs i 0 lt (grind (arith, nat_tests, above, below, e))

none_behind : (m : BitMask) (xs : List ℕ) (i x : ℕ) → x ≡ mirror m.value → IsNonDecreasing xs → IsBinarySearchResult (λ y. nat_cmp y (2 * x + 1)) xs (Err i) → (i < length xs → 2 * (mirror m.value + 2 ^ (56 - m.len)) ≤ get_or xs i 0) → list_any (is_middle_in m) xs ≡ false
none_behind m xs i x e up found far =
    let w = searched xs (2 * x + 1) (Err i) found (in_order xs up) in
    list_any_none (is_middle_in m) xs (λ k d lt. elim (cases_lt k i) [
      | inl before ↦ let low = w.1 k before in let same : get_or xs k d ≡ get_or xs k 0 = get_or_default xs k d 0 lt in grind (arith, nat_tests, low, same, e)
      | inr behind ↦
          let high = far (omega (arith, behind, lt)) in
          let up_to = up i k 0 behind lt in
          let same : get_or xs k d ≡ get_or xs k 0 = get_or_default xs k d 0 lt in
          grind (arith, nat_tests, high, up_to, same)
    ])

pub behind_tells : (m : BitMask) (xs : List ℕ) (i x s : ℕ) → x ≡ mirror m.value → s ≡ 2 ^ (56 - m.len) → IsNonDecreasing xs → IsBinarySearchResult (λ y. nat_cmp y (2 * x + 1)) xs (Err i) → i < length xs → nat_lt (get_or xs i 0) (2 * (x + s)) ≡ list_any (is_middle_in m) xs
behind_tells m xs i x s e f up found lt = elim (cases_lt (get_or xs i 0) (2 * (x + s))) [
  | inl less ↦ (let t : nat_lt (get_or xs i 0) (2 * (x + s)) ≡ true = grind (arith, nat_tests, less) in t) ∙ sym (found_behind m xs i x e up found lt (omega (arith, less, e, f)))
  | inr far ↦ (let t : nat_lt (get_or xs i 0) (2 * (x + s)) ≡ false = grind (arith, nat_tests, far) in t) ∙ sym (none_behind m xs i x e up found (λ _. omega (arith, far, e, f)))
]

pub none_left : (m : BitMask) (xs : List ℕ) (i x : ℕ) → x ≡ mirror m.value → IsNonDecreasing xs → IsBinarySearchResult (λ y. nat_cmp y (2 * x + 1)) xs (Err i) → length xs ≤ i → nat_lt i (length xs) ≡ list_any (is_middle_in m) xs
none_left m xs i x e up found le = (let t : nat_lt i (length xs) ≡ false = grind (arith, nat_tests, le) in t) ∙ sym (none_behind m xs i x e up found (λ lt. absurd (omega (arith, lt, le))))
