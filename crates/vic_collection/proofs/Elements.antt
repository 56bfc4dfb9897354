-- Lists read element by element.
use Rattle.std.specs.List.{AllZip}
use Rattle.std.specs.Option.{option_map}
use Rattle.std.proofs.lemmas.Option.{slice_get-map}
use Rattle.vic_collection.proofs.Words.{suc, zero, ◌<◌, length, arith, slice_get-get_or, ◌++◌, sym, subst, map, get_or, take_more, map_push, ◌≡◌, Option, None, ℕ, ◌+◌, List, [], ◌∷◌, Bool, ◌||◌, Some, refl, ap, ◌∙◌, take, slice_get, list_any, list_any_more, slice_get_within, get_or_from_slice_get, IsSomeAnd}

pub list_any-same : {X : Type 0} (p q : X → Bool) → ((x : X) → p x ≡ q x) → (xs : List X) → list_any p xs ≡ list_any q xs
list_any-same p q h [] = refl
list_any-same p q h (x ∷ xs) = rw (h x, list_any-same p q h xs) refl

module _ {X : Type 0} (p : X → Bool) (xs : List X) (i : ℕ) (x : X) (at : slice_get xs i ≡ Some x) where
  pub list_any_next : list_any p (take (i + 1) xs) ≡ (list_any p (take i xs) || p x)
  list_any_next = list_any_more p xs i x (slice_get_within xs i x at) ∙ ap (λ y. list_any p (take i xs) || p y) (get_or_from_slice_get xs i x x at)

-- what is there, where it is known of it that it is
pub some_value : {X : Type 0} (o : Option X) (P : X → Type 0) → IsSomeAnd o P → (x : X) × (o ≡ Some x) × P x
some_value None P h = absurd h
some_value (Some x) P h = (x, refl, h)

pub some_at : {X : Type 0} (o : Option X) (P : X → Type 0) (x : X) → o ≡ Some x → IsSomeAnd o P → P x
some_at o P x e h = subst (λ p. IsSomeAnd p P) e h

pub some_and : {X : Type 0} (o : Option X) (P : X → Type 0) (x : X) → o ≡ Some x → P x → IsSomeAnd o P
some_and o P x e h = subst (λ p. IsSomeAnd p P) (sym e) h

-- the elements before the next one, and it
pub taken_more : {X : Type 0} (xs : List X) (i : ℕ) (x : X) → slice_get xs i ≡ Some x → take (i + 1) xs ≡ take i xs ++ x ∷ []
taken_more xs i x at = take_more xs i x (slice_get_within xs i x at) ∙ ap (λ y. take i xs ++ y ∷ []) (get_or_from_slice_get xs i x x at)

-- ---- of a list that is mapped

pub map_next : {X Y : Type 0} (f : X → Y) (xs : List X) (i : ℕ) (x : X) → slice_get xs i ≡ Some x → map f (take (i + 1) xs) ≡ map f (take i xs) ++ f x ∷ []
map_next f xs i x at = ap (map f) (taken_more xs i x at) ∙ map_push f (take i xs) x

pub map_at : {X Y : Type 0} (f : X → Y) (xs : List X) (i : ℕ) (x : X) (d : Y) → slice_get xs i ≡ Some x → get_or (map f xs) i d ≡ f x
map_at f xs i x d at = get_or_from_slice_get (map f xs) i (f x) d (slice_get-map f xs i ∙ ap (option_map f) at)

pub list_any-map : {X Y : Type 0} (test : Y → Bool) (f : X → Y) (xs : List X) → list_any test (map f xs) ≡ list_any (λ x. test (f x)) xs
list_any-map test f [] = refl
list_any-map test f (x ∷ xs) = rw (list_any-map test f xs) refl

pub list_any-map_next : {X Y : Type 0} (test : Y → Bool) (f : X → Y) (xs : List X) (i : ℕ) (x : X) → slice_get xs i ≡ Some x → list_any test (map f (take (i + 1) xs)) ≡ (list_any test (map f (take i xs)) || test (f x))
list_any-map_next test f xs i x at = list_any-map test f (take (i + 1) xs) ∙ (list_any_next (λ y. test (f y)) xs i x at ∙ ap (λ (b : Bool). b || test (f x)) (sym (list_any-map test f (take i xs))))

-- the element below the length
pub item_at : {X : Type 0} (xs : List X) (i : ℕ) → i < length xs → (x : X) × (slice_get xs i ≡ Some x)
item_at [] i lt = absurd (omega (arith, lt))
item_at (x ∷ xs) i lt = (get_or (x ∷ xs) i x, slice_get-get_or (x ∷ xs) i x lt)

-- two lists with the same values, element by element
pub same_at : {X Y Z : Type 0} (f : X → Z) (g : Y → Z) (xs : List X) (ys : List Y) (i : ℕ) (x : X) (y : Y) → map f xs ≡ map g ys → x ≡ get_or xs i x → slice_get ys i ≡ Some y → f x ≡ g y
same_at f g [] [] i x y e is at = absurd (omega (arith, slice_get_within [] i y at))
same_at f g [] (z ∷ ys) i x y e is at = absurd cc
same_at f g (w ∷ xs) [] i x y e is at = absurd cc
same_at f g (w ∷ xs) (z ∷ ys) zero x y e is at = let first : w ≡ x = sym is in let other : z ≡ y = cc in let both : f w ≡ g z = cc in cc
same_at f g (w ∷ xs) (z ∷ ys) (suc i) x y e is at = let rest : map f xs ≡ map g ys = cc in same_at f g xs ys i x y rest is at

-- ---- of two lists, element by element

pub zipped_more : {X Y : Type 0} (R : X → Y → Type 0) (xs : List X) (ys : List Y) (x : X) (y : Y) → AllZip R xs ys → R x y → AllZip R (xs ++ x ∷ []) (ys ++ y ∷ [])
zipped_more R [] [] x y all r = (r, tt)
zipped_more R [] (w ∷ ys) x y all r = absurd all
zipped_more R (v ∷ xs) [] x y all r = absurd all
zipped_more R (v ∷ xs) (w ∷ ys) x y all r = (all.0, zipped_more R xs ys x y all.1 r)
