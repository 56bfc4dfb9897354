-- Texts to which the parts of a list are appended, one behind the other.
use Rattle.vic_result.proofs.Words.{◌≡◌, ℕ, List, ◌∷◌, ◌++◌, ◌+◌, ◌∙◌, ap, append_assoc, flat_map, map, drop, get_or, get_or_from_slice_get, slice_get, slice_get_within, Some, suc, add-one, drop-cons}

-- a list from one of its elements on
pub drop_here : {A : Type 0} (xs : List A) (i : ℕ) (x : A) → slice_get xs i ≡ Some x → drop i xs ≡ x ∷ drop (i + 1) xs
drop_here xs i x at =
    let is : get_or xs i x ≡ x = get_or_from_slice_get xs i x x at in
    rw add-one (drop-cons xs i x (slice_get_within xs i x at) ∙ ap (λ y. y ∷ drop (suc i) xs) is)

-- the part of one more element
pub part_here : {A B : Type 0} (g : B → List ℕ) (f : A → B) (t : List ℕ) (xs : List A) (i : ℕ) (x : A) → slice_get xs i ≡ Some x
    → (t ++ g (f x)) ++ flat_map g (map f (drop (i + 1) xs)) ≡ t ++ flat_map g (map f (drop i xs))
part_here g f t xs i x at = rw (drop_here xs i x at) (append_assoc t (g (f x)) (flat_map g (map f (drop (i + 1) xs))))
