-- Lists read element by element, and texts part by part.
use Rattle.vic_result.proofs.Words.{◌≡◌, ℕ, ◌+◌, ◌∙◌, List, [], ◌∷◌, ◌++◌, ◌<◌, ap, arith, refl, append_assoc, get_or_from_slice_get, IsSomeAnd, map, map-append, Option, length, slice_get, slice_get_within, Some, take, take_more}
use Rattle.std.proofs.lemmas.Option.{slice_get-get_or}
use Rattle.std.proofs.Common.{get_or}
use Rattle.std.proofs.lemmas.Slice.Zip.{AllZip-left}
use Rattle.std.specs.List.{AllZip}
use Rattle.std.specs.Prelude.{MatchOption}

pub item_at : {X : Type 0} (xs : List X) (i : ℕ) → i < length xs → (x : X) × (slice_get xs i ≡ Some x)
item_at [] i lt = absurd (omega (arith, lt))
item_at (x ∷ xs) i lt = (get_or (x ∷ xs) i x, slice_get-get_or (x ∷ xs) i x lt)

pub some_at : {X : Type 0} (o : Option X) (P : X → Type 0) (x : X) → o ≡ Some x → IsSomeAnd o P → P x
some_at o P x e h = rw e at h

pub some_and : {X : Type 0} (o : Option X) (P : X → Type 0) (x : X) → o ≡ Some x → P x → IsSomeAnd o P
some_and o P x e h = rw e h

pub two_parts : (t a b : List ℕ) {u v : List ℕ} → u ≡ t ++ a → v ≡ u ++ b → v ≡ t ++ (a ++ b)
two_parts t a b d e = rw (e, d) (append_assoc t a b)

pub three_parts : (t a b c : List ℕ) {u v w : List ℕ} → u ≡ t ++ a → v ≡ u ++ b → w ≡ v ++ c → w ≡ t ++ (a ++ b ++ c)
three_parts t a b c d e f = rw (f, e, d) (simp append_assoc refl)

pub four_parts : (t a b c p : List ℕ) {u v w x : List ℕ} → u ≡ t ++ a → v ≡ u ++ b → w ≡ v ++ c → x ≡ w ++ p → x ≡ t ++ (a ++ b ++ c ++ p)
four_parts t a b c p d e f g = rw (g, f, e, d) (simp append_assoc refl)

-- one element more of a list
pub taken_more : {X : Type 0} (xs : List X) (i : ℕ) (x : X) → slice_get xs i ≡ Some x → take (i + 1) xs ≡ take i xs ++ x ∷ []
taken_more xs i x at = take_more xs i x (slice_get_within xs i x at) ∙ ap (λ y. take i xs ++ y ∷ []) (get_or_from_slice_get xs i x x at)

-- one element more of a list that is mapped
pub map_next : {X Y : Type 0} (f : X → Y) (xs : List X) (i : ℕ) (x : X) → slice_get xs i ≡ Some x → map f (take (i + 1) xs) ≡ map f (take i xs) ++ f x ∷ []
map_next f xs i x at = ap (map f) (taken_more xs i x at) ∙ map-append f (take i xs) (x ∷ [])

-- a fact of two lists, element by element, at an index
match_at : {X : Type 0} (o : Option X) (P : Type 0) (Q : X → Type 0) (x : X) → o ≡ Some x → MatchOption o P Q → Q x
match_at o P Q x e h = rw e at h

pub zip_at : {A B : Type 0} (R : A → B → Type 0) (xs : List A) (ys : List B) (i : ℕ) (x : A) (y : B) → AllZip R xs ys → slice_get xs i ≡ Some x → slice_get ys i ≡ Some y → R x y
zip_at R xs ys i x y all at there =
    some_at (slice_get ys i) (R x) y there (match_at (slice_get xs i) (Unit {0}) (λ v. IsSomeAnd (slice_get ys i) (R v)) x at (AllZip-left R xs ys all i))
