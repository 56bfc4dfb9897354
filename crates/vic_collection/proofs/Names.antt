-- By what a log is found, byte after byte of its name.
use Rattle.vic_collection.proofs.Words.{◌≡◌, ◌<◌, ◌≤◌, ◌+◌, ℕ, List, [], ◌∷◌, ◌++◌, Bool, true, false, ◌||◌, arith, cond, refl, sym, ap, ◌∙◌, list_any, list_any-append, has, nat_eq, or-false, take, drop, length, get_or, take_more, drop_all, drop-append-le, length-take-le}
use Rattle.std.specs.Str.{byte}
use Rattle.vic_collection.specs.Found.{base_of, before_ending, is_slash}

-- ---- what follows the last slash

pub base_of-push : (xs : List ℕ) (b : ℕ) → base_of (xs ++ b ∷ []) ≡ cond (is_slash b) [] (base_of xs ++ b ∷ [])
base_of-push [] b = rw (or-false (is_slash b)) refl
base_of-push (x ∷ xs) b = rw (list_any-append is_slash (x ∷ xs) (b ∷ []), base_of-push xs b) (go (list_any is_slash (x ∷ xs)) (is_slash b) (base_of xs) (x ∷ xs)) where
  go : (p q : Bool) (base name : List ℕ) → cond (p || (q || false)) (cond q [] (base ++ b ∷ [])) (name ++ b ∷ []) ≡ cond q [] (cond p base name ++ b ∷ [])
  go true true base name = refl
  go true false base name = refl
  go false true base name = refl
  go false false base name = refl

-- ---- what stands before the last dot

pub before_ending-push : (xs : List ℕ) (b : ℕ) → before_ending (xs ++ b ∷ []) ≡ cond (nat_eq (byte ".") b) xs (before_ending xs)
before_ending-push [] b = either (nat_eq (byte ".") b) [] where
  either : (p : Bool) (none : List ℕ) → none ≡ cond p none none
  either true none = refl
  either false none = refl
before_ending-push (x ∷ xs) b = rw (list_any-append (nat_eq (byte ".")) xs (b ∷ []), before_ending-push xs b) (go (has xs (byte ".")) (nat_eq (byte ".") b) (before_ending xs)) where
  go : (p q : Bool) (front : List ℕ) → cond (p || (q || false)) (x ∷ cond q xs front) [] ≡ cond q (x ∷ xs) (cond p (x ∷ front) [])
  go true true front = refl
  go true false front = refl
  go false true front = refl
  go false false front = refl

-- ---- one byte more

pub base_of-slash : (xs : List ℕ) (i : ℕ) → i < length xs → is_slash (get_or xs i 0) ≡ true → drop (i + 1) (take (i + 1) xs) ≡ base_of (take (i + 1) xs)
base_of-slash xs i lt h =
    let none = drop_all (i + 1) (take (i + 1) xs) (omega (arith, length-take-le (i + 1) xs (omega arith))) in
    none ∙ sym (rw (take_more xs i 0 lt) (base_of-push (take i xs) (get_or xs i 0) ∙ rw h refl))

pub base_of-other : (xs : List ℕ) (i start : ℕ) → i < length xs → start ≤ i → is_slash (get_or xs i 0) ≡ false → drop start (take i xs) ≡ base_of (take i xs) → drop start (take (i + 1) xs) ≡ base_of (take (i + 1) xs)
base_of-other xs i start lt low h same =
    rw (take_more xs i 0 lt) (drop-append-le start (take i xs) (get_or xs i 0 ∷ []) (omega (arith, length-take-le i xs (omega arith))) ∙ (ap (λ base. base ++ get_or xs i 0 ∷ []) same ∙ sym (base_of-push (take i xs) (get_or xs i 0) ∙ rw h refl)))

pub before_ending-dot : (xs : List ℕ) (i : ℕ) → i < length xs → get_or xs i 0 ≡ byte "." → take i xs ≡ before_ending (take (i + 1) xs)
before_ending-dot xs i lt h = sym (rw (take_more xs i 0 lt) (before_ending-push (take i xs) (get_or xs i 0) ∙ rw h refl))

pub before_ending-other : (xs : List ℕ) (i : ℕ) → i < length xs → nat_eq (byte ".") (get_or xs i 0) ≡ false → before_ending (take (i + 1) xs) ≡ before_ending (take i xs)
before_ending-other xs i lt h = rw (take_more xs i 0 lt) (before_ending-push (take i xs) (get_or xs i 0) ∙ rw h refl)
