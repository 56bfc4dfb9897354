-- Bytes that are taken in turn.
use Rattle.vic_log.proofs.Words.{◌<◌, ◌≤◌, ◌∷◌, slice_index_or, arith, ◌≡◌, ◌+◌, ◌-◌, ℕ, List, [], ◌++◌, length, length-append, take, drop, None, Some, Option, refl, ◌∙◌, ap, append_assoc, nat_tests, common_steps, lf, drop_all, take-append-le, Appends, HasTakenBut, Appends-trans, take-add, take-append-add, HasTakenPrefix, append-nil}

-- the first n bytes, and then the next m of the rest
pub appended-more : (a b c : Option (List ℕ)) (n m : ℕ) (xs : List ℕ) →
    Appends a b (take n xs) → Appends b c (take m (take (length xs - n) (drop n xs))) → Appends a c (take (n + m) xs)
appended-more a b c n m xs h k = grind (arith, nat_tests, common_steps, take-add)

-- one piece more was taken
HasTakenBut-step : (a b c : Option (List ℕ)) (piece rest more text : List ℕ) → HasTakenBut a b more text → piece ++ rest ≡ more → Appends b c piece → HasTakenBut a c rest text
HasTakenBut-step a b c piece rest more text h e k = grind (arith, nat_tests, Appends-trans, append_assoc)

-- of the last piece only a first part was taken
HasTakenBut-part : (a b c : Option (List ℕ)) (piece rest text : List ℕ) → HasTakenBut a b (piece ++ rest) text → HasTakenPrefix b c piece → HasTakenPrefix a c text
HasTakenBut-part None b c piece rest text h k = tt
HasTakenBut-part (Some xs) None c piece rest text h k = absurd h.1
HasTakenBut-part (Some xs) (Some ys) None piece rest text h k = tt
HasTakenBut-part (Some xs) (Some ys) (Some zs) piece rest text h k = rw (← h.2) (
  length h.0 + k.0,
  omega (arith, k.1, length-append h.0 (piece ++ rest), length-append piece rest),
  k.2 ∙ rw (h.1, append_assoc, take-append-add, take-append-le k.0 piece rest k.1) refl,
)

-- what comes before a piece that waits was taken of a text, and the rest follows
pub record Waits (old new : Option (List ℕ)) (piece rest text : List ℕ) : Type 0 where
  pub told : HasTakenBut old new (piece ++ rest) text
  pub prefix : (next : Option (List ℕ)) → HasTakenPrefix new next piece → HasTakenPrefix old next text
  pub part : (next : List ℕ) → HasTakenPrefix new (Some next) piece → HasTakenPrefix old (Some next) text
  pub all : rest ≡ [] → (next : Option (List ℕ)) → Appends new next piece → Appends old next text

waits : (a b : Option (List ℕ)) (piece rest text : List ℕ) → HasTakenBut a b (piece ++ rest) text → Waits a b piece rest text
waits a b piece rest text h = record {
  told = h;
  prefix = λ next. HasTakenBut-part a b next piece rest text h;
  part = λ next. HasTakenBut-part a b (Some next) piece rest text h;
  all = λ none next k. rw (← h.2, none, append-nil) (Appends-trans a b next h.0 piece h.1 k);
}

pub waits_none : (a : Option (List ℕ)) (piece rest text : List ℕ) → piece ++ rest ≡ text → Waits a a piece rest text
waits_none a piece rest text e = waits a a piece rest text (grind (arith, common_steps))

-- a line was put behind what waited, of which some may have been taken
pub waits_more : (a b c : Option (List ℕ)) (piece piece' line rest more text : List ℕ) → Waits a b piece more text → HasTakenBut b c piece' (piece ++ line) → line ++ rest ≡ more → Waits a c piece' rest text
waits_more a b c piece piece' line rest more text h k e =
    waits a c piece' rest text (HasTakenBut-step a b c k.0 (piece' ++ rest) (piece ++ more) text h.told (rw (← append_assoc k.0 piece' rest, k.2, append_assoc, e) refl) k.1)

-- the line of the element at position i, and the lines behind it
pub line_next : {X : Type 0} (line : X → List ℕ) (text : List X → List ℕ) → ((x : X) (xs : List X) → text (x ∷ xs) ≡ line x ++ lf ∷ text xs) → (xs : List X) (i : ℕ) (x : X) → i < length xs → x ≡ slice_index_or xs i x
    → (line x ++ lf ∷ []) ++ text (drop (i + 1) xs) ≡ text (drop i xs)
line_next line text e xs i x h is = grind (arith, common_steps)

-- nothing is left behind the last one
pub none_left : {X : Type 0} (text : List X → List ℕ) (xs : List X) (i : ℕ) → text [] ≡ [] → length xs ≤ i → text (drop i xs) ≡ []
none_left text xs i none h = ap text (drop_all i xs h) ∙ none
