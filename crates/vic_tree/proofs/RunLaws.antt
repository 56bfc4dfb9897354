-- What is left of ranges of keys when some keys are removed, run by run.
use Rattle.vic_tree.proofs.Words.{◌≡◌, ℕ, ◌+◌, ◌<◌, ◌≤◌, ◌==◌, Bool, true, false, List, ◌∷◌, length, get_or, drop, nat_eq, max, arith, ne_eqb, IsNonDecreasing, nat_tests, has, AreRanges, IsFirstRun, PassFrom, All-from_get_or, list_any_none}
use Rattle.vic_tree.proofs.RangeLaws.{any_dropped, none_below}

-- a key in a list that rises, and one behind its first
pub is_first : (key k : ℕ) (others : List ℕ) → k ≡ key → has (key ∷ others) k ≡ true
is_first key k others e = grind (arith, nat_tests)

pub is_behind : (key k : ℕ) (others : List ℕ) → key < k → has (key ∷ others) k ≡ has others k
is_behind key k others lt = grind (arith, nat_tests)

pub is_before_all : (keys : List ℕ) (k : ℕ) → IsNonDecreasing keys → (0 < length keys → k < get_or keys 0 0) → has keys k ≡ false
is_before_all keys k up low =
    list_any_none (nat_eq k) keys (All-from_get_or (λ y. (k == y) ≡ false) keys 0 (λ i lt. ne_eqb k (get_or keys i 0) (let a = up 0 i 0 (omega arith) lt in let b = low (omega arith) in λ e. omega arith)))

-- without those that come before a key
pub keys_dropped : (keys : List ℕ) (n from k : ℕ) → ((i d : ℕ) → i < n → get_or keys i d < from) → from ≤ k → has (drop n keys) k ≡ has keys k
keys_dropped keys n from k low le = any_dropped (nat_eq k) keys n (λ i d lt. ne_eqb k (get_or keys i d) (let a = low i d lt in λ e. omega arith))

-- the keys before the first that is free don't pass
pub none_passed : (p : ℕ → Bool) (begin from free : ℕ) (r : ℕ × ℕ) (others : List (ℕ × ℕ)) (keys : List ℕ) → AreRanges (r ∷ others) → PassFrom p (from, r ∷ others, keys) → ((k : ℕ) → begin ≤ k → k < from → p k ≡ false)
    → ((k : ℕ) → max from r.0 ≤ k → k < free → has keys k ≡ true) → (k : ℕ) → begin ≤ k → k < free → p k ≡ false
none_passed p begin from free r others keys ranges pass none taken k low lt = grind (arith, nat_tests, none k, pass k, none_below r.0 (r ∷ others) k (omega arith, ranges.1, ranges.2, ranges.3), taken k)

-- a range that ends before it is passed
pub pass_others : (p : ℕ → Bool) (from free : ℕ) (r : ℕ × ℕ) (others : List (ℕ × ℕ)) (keys rest : List ℕ) → from ≤ free → r.1 < free → PassFrom p (from, r ∷ others, keys) → ((k : ℕ) → free ≤ k → has rest k ≡ has keys k) → PassFrom p (free, others, rest)
pass_others p from free r others keys rest low over pass same k le = grind (arith, nat_tests, pass k, same k le)

-- and one that doesn't has a run
pub is_first_run : (p : ℕ → Bool) (begin from first last : ℕ) (r : ℕ × ℕ) (others : List (ℕ × ℕ)) (keys rest : List ℕ) → AreRanges (r ∷ others) → PassFrom p (from, r ∷ others, keys)
    → ((k : ℕ) → begin ≤ k → k < from → p k ≡ false) → begin ≤ from → max from r.0 ≤ first → first ≤ last → last ≤ r.1
    → ((k : ℕ) → max from r.0 ≤ k → k < first → has keys k ≡ true)
    → ((k : ℕ) → first ≤ k → has rest k ≡ has keys k)
    → ((k : ℕ) → k ≤ last → has rest k ≡ false)
    → (last < r.1 → has rest (last + 1) ≡ true)
    → IsFirstRun p begin first last
is_first_run p begin from first last r others keys rest ranges pass none a b d e taken same free end = record {
  begins = omega arith;
  before = none_passed p begin from first r others keys ranges pass none taken;
  passes = λ k low high. grind (arith, nat_tests, pass k, same k low, free k high);
  ends = grind (arith, nat_tests, pass (last + 1), same (last + 1), end, none_below (r.1 + 2) others (last + 1) ranges.3);
}
