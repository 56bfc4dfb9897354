-- A CRC as two bytes.
use Rattle.vicinity_c.proofs.Words.{◌≡◌, ℕ, ◌/◌, ◌%◌, ◌<◌, List, [], ◌∷◌, ◌++◌, arith, refl, append_assoc, ap, ◌∙◌, sym}
use Rattle.vic_frame.specs.Bytes.{bytes_of}

two_bytes : (n : ℕ) → n < 65536 → bytes_of 2 n ≡ n % 256 ∷ n / 256 ∷ []
unfolding bytes_of
two_bytes n h = let e : n / 256 % 256 ≡ n / 256 = omega arith in rw e refl

pub pushed_twice : (bytes : List ℕ) (n : ℕ) → n < 65536 → (bytes ++ n % 256 ∷ []) ++ n / 256 ∷ [] ≡ bytes ++ bytes_of 2 n
pushed_twice bytes n h = append_assoc bytes (n % 256 ∷ []) (n / 256 ∷ []) ∙ ap (λ xs. bytes ++ xs) (sym (two_bytes n h))
