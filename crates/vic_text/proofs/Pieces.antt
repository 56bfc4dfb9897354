-- Texts that are written piece by piece.
use Rattle.std.proofs.Common.{Result, Ok, Err, OnOk, is_ok, if◌then◌else◌, ◌≡◌, ℕ, List, ◌∷◌, ◌++◌, ◌+◌, ◌<◌, ◌≤◌, ◌∙◌, ap, sym, length, append_assoc, append-nil, drop, get_or, suc, add-one, drop-cons}
use Rattle.std.specs.List.{flat_map}
use Rattle.std.proofs.lemmas.List.{drop_all}

-- one more item behind a text
pub item_next : {A : Type 0} (f : A → List ℕ) (t : List ℕ) (xs : List A) (i : ℕ) (x d : A) → i < length xs → x ≡ get_or xs i d
    → (t ++ f x) ++ flat_map f (drop (i + 1) xs) ≡ t ++ flat_map f (drop i xs)
item_next f t xs i x d h is =
    let rest : drop i xs ≡ x ∷ drop (i + 1) xs = rw add-one (drop-cons xs i d h ∙ ap (λ y. y ∷ drop (suc i) xs) (sym is)) in
    rw rest (append_assoc t (f x) (flat_map f (drop (i + 1) xs)))

pub no_item_left : {A : Type 0} (f : A → List ℕ) (t : List ℕ) (xs : List A) (i : ℕ) → length xs ≤ i → t ++ flat_map f (drop i xs) ≡ t
no_item_left f t xs i h = ap (λ ys. t ++ flat_map f ys) (drop_all i xs h) ∙ append-nil t

-- one more piece behind a text
pub then_piece : (t a b : List ℕ) {u v : List ℕ} → u ≡ t ++ a → v ≡ u ++ b → v ≡ t ++ (a ++ b)
then_piece t a b d e = e ∙ ap (λ w. w ++ b) d ∙ append_assoc t a b

-- what is appended if memory isn't refused
pub on_ok_items : {E : Type 0} (r : Result (Unit {0}) E) {u : List ℕ} (a b : List ℕ) → u ≡ (if is_ok r then a else b) → OnOk r (u ≡ a)
on_ok_items (Ok x) a b e = e
on_ok_items (Err x) a b e = tt
