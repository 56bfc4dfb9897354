-- Vectors, lane by lane.
use Rattle.vic_log.proofs.Words.{◌≡◌, ℕ, ◌+◌, ◌%◌, ◌^◌, ◌<◌, ◌≤◌, leb, not, replicate, eqb, Bool, true, cond, List, [], ◌∷◌, map, length, w8, refl, ap, ap₂, ◌∙◌, arith, nat_tests, agree_below, agree_below_at, eqb-true, length-map, length-chunk, prefix_len, tops_compared, zip2_of_maps, splat_is_map, map-map, mask_l-mod}
use Rattle.std.proofs.Common.{Fits}
use lib.Lanes.{chunk, zip2, sel_l, top, Each1, mask_l}

selected : (p : ℕ → Bool) (f g : ℕ → ℕ) (v : List ℕ) → sel_l (map p v) (map f v) (map g v) ≡ map (λ x. cond (p x) (f x) (g x)) v
selected p f g [] = refl
selected p f g (x ∷ xs) = ap (λ r. cond (p x) (f x) (g x) ∷ r) (selected p f g xs)

-- a choice between two vectors by a third, all of which were computed lane by lane from v
pub chosen : (h f g : ℕ → ℕ) (v : List ℕ) {t a b : List ℕ} → t ≡ map h v → a ≡ map f v → b ≡ map g v
    → sel_l (map (top 7) t) a b ≡ map (λ x. cond (top 7 (h x)) (f x) (g x)) v
chosen h f g v e p q = rw (e, p, q, map-map (top 7) h v) (selected (λ x. top 7 (h x)) f g v)

-- two functions that agree on bytes
pub on_bytes : (f g : ℕ → ℕ) (v : List ℕ) → agree_below (λ x. eqb (f x) (g x)) (λ _. true) 256 ≡ true → Each1 (Fits w8) v → map f v ≡ map g v
on_bytes f g [] same fits = refl
on_bytes f g (x ∷ xs) same fits =
    ap₂ (λ a r. a ∷ r) (eqb-true (f x) (g x) (agree_below_at (λ y. eqb (f y) (g y)) (λ _. true) 256 x same fits.0.fits)) (on_bytes f g xs same fits.1)

marked : (q : ℕ → Bool) (v : List ℕ) → 0 < mask_l (map q v) → prefix_len (λ x. not (q x)) v < length v
marked q [] h = absurd (omega arith)
marked q (x ∷ xs) h = grind (arith, nat_tests, marked q xs)

-- where a bit is set, a lane passes
pub some_marked : (q : ℕ → Bool) (xs : List ℕ) (i n : ℕ) → i + n ≤ length xs → 0 < mask_l (map q (chunk i n xs)) → prefix_len (λ x. not (q x)) (chunk i n xs) < n
some_marked q xs i n room h = omega (arith, marked q (chunk i n xs) h, length-chunk i n xs room)

-- the mask of the lanes, computed lane by lane, that are at least n
pub marks : (f : ℕ → ℕ) (xs v : List ℕ) (n : ℕ) → v ≡ map f xs → length xs ≡ 16
    → mask_l (map (top 7) (zip2 (λ a b. cond (leb a b) 255 0) (replicate 16 n) v)) % 2 ^ 64 ≡ mask_l (map (λ x. leb n (f x)) xs)
marks f xs v n is long =
    ap (λ m. mask_l m % 2 ^ 64) (tops_compared w8 leb (replicate 16 n) v ∙ zip2_of_maps leb (λ _. n) f xs (splat_is_map xs 16 n long) is)
    ∙ mask_l-mod (map (λ x. leb n (f x)) xs) 64 (omega (arith, length-map xs (λ x. leb n (f x))))
