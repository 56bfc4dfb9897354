-- Pieces of a text, one behind the other.
use Rattle.std.proofs.Common.{◌≡◌, List, ℕ, ◌++◌, ◌∙◌, ap, append_assoc, refl}

-- three pieces that were put behind a text at once
pub three_more : (t a b c d : List ℕ) {v : List ℕ} → v ≡ t ++ (a ++ (b ++ c ++ d)) → v ≡ t ++ (a ++ b ++ c ++ d)
three_more t a b c d e = e ∙ ap (λ x. t ++ x) (simp append_assoc refl)
