-- The Ready tags of a field, and the members of a population that answer: the outcome is the same.
use Rattle.vic_field.proofs.Words.{◌≡◌, ℕ, Bool, true, false, not, ◌&&◌, List, [], ◌∷◌, length, Option, Some, None, refl, sym, ap, ◌∙◌, unwrap_or, arith, ⊎_elim, nat_eq, if◌then◌else◌, filter, is_some-lookup, nat_tests, both_ways, false≢true, BitMask, lies_in, IsUid, has, Entry, IsPopulation, is_quiet, slot_line, uids, readiness, ready_in, and_parts, AreDifferent, Outcome, Nobody, Lone, Several, outcome_of, Fits, IsWithin, AreDifferent-population, AreDifferent-filter, has_at, has_here, has_there, has_cases, has_filter, filter_has, IsUid-member}
use Rattle.vic_field.specs.Tags.{told}

only : (x y : ℕ) → has (x ∷ []) y ≡ true → y ≡ x
only x y h = ⊎_elim (λ e. e) (λ k. absurd (false≢true k)) (has_cases y x [] h)

two_in_one : (x y z : ℕ) (ys : List ℕ) → has (z ∷ ys) y ≡ false → IsWithin (has (y ∷ z ∷ ys)) (has (x ∷ [])) → ⊥
two_in_one x y z ys apart g =
    let first = only x y (g y (has_here y (z ∷ ys))) in
    let second = only x z (g z (has_there z y (z ∷ ys) (has_here z ys))) in
    both_ways (has (z ∷ ys) y) apart (has_at y z ys (first ∙ sym second))

-- the outcome where different tags answer is told by which they are
pub same_outcome : (xs ys : List ℕ) → AreDifferent xs → AreDifferent ys → IsWithin (has xs) (has ys) → IsWithin (has ys) (has xs) → outcome_of xs ≡ outcome_of ys
same_outcome [] [] dx dy f g = refl
same_outcome [] (y ∷ ys) dx dy f g = absurd (false≢true (g y (has_here y ys)))
same_outcome (x ∷ xs) [] dx dy f g = absurd (false≢true (f x (has_here x xs)))
same_outcome (x ∷ []) (y ∷ []) dx dy f g = ap Lone (only y x (f x (has_here x [])))
same_outcome (x ∷ []) (y ∷ z ∷ ys) dx dy f g = absurd (two_in_one x y z ys dy.0 g)
same_outcome (x ∷ y ∷ xs) (z ∷ []) dx dy f g = absurd (two_in_one z x y xs dx.0 f)
same_outcome (x ∷ y ∷ xs) (z ∷ w ∷ ys) dx dy f g = refl

-- ---- the Ready tags in a mask

-- what is among them
ready_has : (m : BitMask) (ts : List (ℕ × Bool)) (u : ℕ) → IsPopulation (uids ts) → has (ready_in m ts) u ≡ (lies_in m u && unwrap_or (readiness ts u) false)
ready_has m [] u p = grind arith
ready_has m (t ∷ ts) u p = grind (arith, nat_tests, p.1, ready_has m ts u p.2, is_some-lookup (nat_eq u) ts)

ready_distinct : (m : BitMask) (ts : List (ℕ × Bool)) → IsPopulation (uids ts) → AreDifferent (ready_in m ts)
ready_distinct m [] p = tt
ready_distinct m (t ∷ ts) p = grind (arith, p.1, ready_distinct m ts p.2, ready_has m ts t.0 p.2, is_some-lookup (nat_eq t.0) ts)

-- ---- a field that tells of a population

-- the tags are the population's, each Ready where it isn't Quiet behind the entries
abbrev pub Tells : List ℕ → List Entry → List (ℕ × Bool) → Type 0
Tells p es tags = (u : ℕ) → IsUid u → readiness tags u ≡ (if has p u then Some (not (is_quiet es (length es) u)) else None)

told_ready : (l h q : Bool) (r : Option Bool) → r ≡ (if h then Some (not q) else None) → (l && unwrap_or r false) ≡ (h && (l && not q))
told_ready l h q r e = grind arith

-- the Ready tags in a mask produce the outcome of the population's members that answer there
pub outcome_told : (p : List ℕ) (es : List Entry) (tags : List (ℕ × Bool)) (m : BitMask) → IsPopulation p → IsPopulation (uids tags) → Tells p es tags
    → outcome_of (ready_in m tags) ≡ outcome_of (filter (λ u. lies_in m u && not (is_quiet es (length es) u)) p)
outcome_told p es tags m pop tagged tells =
    same_outcome (ready_in m tags) (filter answers p) (ready_distinct m tags tagged) (AreDifferent-filter answers p (AreDifferent-population p pop)) forth back where
      answers : ℕ → Bool
      answers u = lies_in m u && not (is_quiet es (length es) u)

      same : (u : ℕ) → IsUid u → has (ready_in m tags) u ≡ (has p u && answers u)
      same u uid = ready_has m tags u tagged ∙ told_ready (lies_in m u) (has p u) (is_quiet es (length es) u) (readiness tags u) (tells u uid)

      forth : IsWithin (has (ready_in m tags)) (has (filter answers p))
      forth u h =
          let there : has (uids tags) u ≡ true = grind (arith, ready_has m tags u tagged, is_some-lookup (nat_eq u) tags) in
          filter_has answers p u (sym (same u (IsUid-member (uids tags) u tagged there)) ∙ h)

      back : IsWithin (has (filter answers p)) (has (ready_in m tags))
      back u h =
          let k = has_filter answers p u h in
          same u (IsUid-member p u pop (and_parts (has p u) (answers u) k).0) ∙ k

-- the line of an outcome fits it
pub fits_told : (o : Outcome) (us : List ℕ) → outcome_of us ≡ o → Fits (slot_line (told o)) us
fits_told Nobody us h = h
fits_told (Lone u) us h = h
fits_told Several us h = h
