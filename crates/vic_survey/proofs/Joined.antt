-- Lines that are joined.
use Rattle.vic_survey.proofs.Words.{◌≡◌, ℕ, List, [], ◌∷◌, ◌++◌, ◌+◌, ◌∙◌, ap, refl, sym, arith, length, append_assoc, append-nil, map, flat_map, drop, take, take_all, drop-append_seam, length-append, ◌-◌, get_or, suc, add-one, drop-cons, drop_all, ◌<◌, ◌≤◌, lf, joined, seal}

pub joined-append : (xs ys : List (List ℕ)) → joined (xs ++ ys) ≡ joined xs ++ joined ys
joined-append [] ys = refl
joined-append (x ∷ xs) ys = rw (joined-append xs ys) (sym (append_assoc x (lf ∷ joined xs) (joined ys)))

-- lines behind one more
pub line_and : (t line : List ℕ) (lines : List (List ℕ)) → (t ++ line ++ lf ∷ []) ++ joined lines ≡ t ++ joined (line ∷ lines)
line_and t line lines = simp append_assoc refl

pub behind_line : (t line : List ℕ) (lines : List (List ℕ)) {u v : List ℕ} → u ≡ t ++ line ++ lf ∷ [] → v ≡ u ++ joined lines → v ≡ t ++ joined (line ∷ lines)
behind_line t line lines d e = e ∙ ap (λ w. w ++ joined lines) d ∙ line_and t line lines

-- two lines behind a text
pub two_lines : (t a b : List ℕ) {u v : List ℕ} → u ≡ t ++ a ++ lf ∷ [] → v ≡ u ++ b ++ lf ∷ [] → v ≡ t ++ joined (a ∷ b ∷ [])
two_lines t a b {u} d e = behind_line t a (b ∷ []) d (e ∙ append_assoc u b (lf ∷ []))

pub joined-map : {A : Type 0} (f : A → List ℕ) (xs : List A) → joined (map f xs) ≡ flat_map (λ x. f x ++ lf ∷ []) xs
joined-map f [] = refl
joined-map f (x ∷ xs) = rw (joined-map f xs) (sym (append_assoc (f x) (lf ∷ []) (flat_map (λ y. f y ++ lf ∷ []) xs)))

pub joined-flat : {A : Type 0} (f : A → List (List ℕ)) (xs : List A) → joined (flat_map f xs) ≡ flat_map (λ x. joined (f x)) xs
joined-flat f [] = refl
joined-flat f (x ∷ xs) = joined-append (f x) (flat_map f xs) ∙ ap (λ ys. joined (f x) ++ ys) (joined-flat f xs)

-- one more line of a list behind a text
pub line_next : {A : Type 0} (f : A → List ℕ) (t : List ℕ) (xs : List A) (i : ℕ) (x : A) → i < length xs → x ≡ get_or xs i x
    → (t ++ f x ++ lf ∷ []) ++ joined (map f (drop (i + 1) xs)) ≡ t ++ joined (map f (drop i xs))
line_next f t xs i x h is =
    let rest : drop i xs ≡ x ∷ drop (i + 1) xs = rw add-one (drop-cons xs i x h ∙ ap (λ y. y ∷ drop (suc i) xs) (sym is)) in
    rw rest (line_and t (f x) (map f (drop (i + 1) xs)))

pub none_left : {A : Type 0} (f : A → List ℕ) (t : List ℕ) (xs : List A) (i : ℕ) → length xs ≤ i → t ++ joined (map f (drop i xs)) ≡ t
none_left f t xs i h = ap (λ ys. t ++ joined (map f ys)) (drop_all i xs h) ∙ append-nil t

-- one more item of several lines behind a text
pub lines_next : {A : Type 0} (f : A → List (List ℕ)) (t : List ℕ) (xs : List A) (i : ℕ) (x : A) → i < length xs → x ≡ get_or xs i x
    → (t ++ joined (f x)) ++ joined (flat_map f (drop (i + 1) xs)) ≡ t ++ joined (flat_map f (drop i xs))
lines_next f t xs i x h is =
    let rest : drop i xs ≡ x ∷ drop (i + 1) xs = rw add-one (drop-cons xs i x h ∙ ap (λ y. y ∷ drop (suc i) xs) (sym is)) in
    rw (rest, joined-append (f x) (flat_map f (drop (i + 1) xs))) (append_assoc t (joined (f x)) (joined (flat_map f (drop (i + 1) xs))))

pub no_more_left : {A : Type 0} (f : A → List (List ℕ)) (t : List ℕ) (xs : List A) (i : ℕ) → length xs ≤ i → t ++ joined (flat_map f (drop i xs)) ≡ t
no_more_left f t xs i h = ap (λ ys. t ++ joined (flat_map f ys)) (drop_all i xs h) ∙ append-nil t

-- the lines of what a possible log says, one behind the other
pub facts_joined : (t p a : List ℕ) (xs ys : List (List ℕ)) (m w h d : List ℕ) {t1 t2 t3 t4 t5 t6 t7 t8 : List ℕ}
    → t1 ≡ t ++ p ++ lf ∷ [] → t2 ≡ t1 ++ a ++ lf ∷ [] → t3 ≡ t2 ++ joined xs → t4 ≡ t3 ++ joined ys
    → t5 ≡ t4 ++ m ++ lf ∷ [] → t6 ≡ t5 ++ w ++ lf ∷ [] → t7 ≡ t6 ++ h ++ lf ∷ [] → t8 ≡ t7 ++ d ++ lf ∷ []
    → t8 ≡ t ++ joined (p ∷ a ∷ xs ++ ys ++ m ∷ w ∷ h ∷ d ∷ [])
facts_joined t p a xs ys m w h d e1 e2 e3 e4 e5 e6 e7 e8 = rw (e8, e7, e6, e5, e4, e3, e2, e1) (simp (append_assoc, joined-append) refl)

-- a seal behind lines
pub seal_joined : (t s : List ℕ) (lines : List (List ℕ)) {u v : List ℕ} → u ≡ t ++ joined lines → v ≡ u ++ s ++ lf ∷ [] → s ≡ seal lines → v ≡ t ++ joined (lines ++ seal lines ∷ [])
seal_joined t s lines d e f = rw (e, d, f) (simp (append_assoc, joined-append) refl)

-- what stands behind a text
pub behind_text : (t x d : List ℕ) (start : ℕ) → d ≡ t ++ x → start ≡ length t → take (length d - start) (drop start d) ≡ x
behind_text t x d start e f =
    let rest : drop start d ≡ x = rw (e, f) (drop-append_seam t x) in
    rw rest (take_all (length d - start) x (omega (arith, ap length e, length-append t x)))
