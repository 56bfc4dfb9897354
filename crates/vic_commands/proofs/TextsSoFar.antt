-- Texts in memory, one after another.
use Rattle.std.proofs.Common.{◌≡◌, ◌<◌, ◌∙◌, ◌+◌, ◌++◌, ℕ, List, [], ◌∷◌, ap, arith, get_or, length, map, take}
use Rattle.std.proofs.lemmas.List.{get_or-map, length-map, take_more}
use denote.Ref.{Bor}

-- one text more
pub take_now-more : (texts : List (Bor (List ℕ))) (i : ℕ) (d : Bor (List ℕ)) → i < length texts
    → take (i + 1) (map (λ t. t.now) texts) ≡ take i (map (λ t. t.now) texts) ++ (get_or texts i d).now ∷ []
take_now-more texts i d lt =
    let below : i < length (map (λ (t : Bor (List ℕ)). t.now) texts) = omega (arith, length-map texts (λ (t : Bor (List ℕ)). t.now), lt) in
    take_more (map (λ t. t.now) texts) i [] below ∙ ap (λ text. take i (map (λ t. t.now) texts) ++ text ∷ []) (get_or-map (λ (t : Bor (List ℕ)). t.now) texts i d [] lt)
