-- The first LF of some bytes.
use Rattle.vic_log.proofs.Words.{◌≡◌, ℕ, suc, ◌-◌, ◌<◌, ◌≤◌, true, false, List, ◌∷◌, ◌++◌, length, take, drop, Result, arith, slice_index, ◌==◌, ◌↔◌, IsOk, is_ok, OnOk, nat_tests, eq-eqb, has, lf, length-drop, length-take-le, get_or-take, take_all, IsSplit}
use Rattle.std.proofs.Math.Seq.{split_at as cut_at}
use Rattle.vic_log.proofs.Sets.{none_has}

pub lacks_all : (bytes : List ℕ) → ((i : ℕ) → 0 ≤ i → i < length bytes → slice_index bytes i == lf ≡ true → ⊥) → has bytes lf ≡ false
lacks_all bytes none = none_has bytes lf (λ i lt e. none i (omega arith) lt (eq-eqb _ _ e))

lacks : (bytes : List ℕ) (k : ℕ) → k ≤ length bytes → ((i : ℕ) → 0 ≤ i → i < k → slice_index bytes i == lf ≡ true → ⊥) → has (take k bytes) lf ≡ false
lacks bytes k h none = lacks_all (take k bytes) (λ i low lt e.
    let below : i < k = omega (arith, length-take-le k bytes h) in none i low below (rw (get_or-take k bytes i 0 below) at e))

parted : (bytes : List ℕ) (k : ℕ) → k < length bytes → slice_index bytes k ≡ lf → bytes ≡ take k bytes ++ lf ∷ drop (suc k) bytes
parted bytes k h e = rw e at (cut_at bytes k 0 h)

pub split_at : (bytes : List ℕ) (k n m : ℕ) → k < length bytes → n ≡ suc k → m ≡ length bytes - n → slice_index bytes k ≡ lf → ((i : ℕ) → 0 ≤ i → i < k → slice_index bytes i == lf ≡ true → ⊥)
    → IsSplit bytes (take k bytes) (take m (drop n bytes))
split_at bytes k n m h e f there none = grind (arith, nat_tests, parted, take_all, length-drop, lacks)

-- no capacity for that many
pub over : {A E : Type 0} (r : Result A E) (n : ℕ) → (IsOk r ↔ (n ≤ 130)) → is_ok r ≡ false → 130 < n
over r n h k = grind (arith, nat_tests)

pub on_ok : {A E : Type 0} (r : Result A E) (P : Type 0) → is_ok r ≡ true → OnOk r P → P
on_ok r P h k = grind (arith, nat_tests)
