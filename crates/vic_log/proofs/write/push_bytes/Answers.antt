use Rattle.vic_log.proofs.Words.{◌≡◌, ℕ, List, [], ◌∷◌, ◌++◌, ◌∙◌, append_assoc, arith, common_steps, encode_upper}
use Rattle.vic_log.proofs.write.push_bytes.Goals as goal

two_first : (line bytes : List ℕ) (letter : ℕ) → ((line ++ letter ∷ []) ++ 32 ∷ []) ++ encode_upper bytes ≡ line ++ letter ∷ 32 ∷ encode_upper bytes
two_first line bytes letter = append_assoc (line ++ letter ∷ []) (32 ∷ []) (encode_upper bytes) ∙ append_assoc line (letter ∷ []) (32 ∷ encode_upper bytes)

pub returns-clause-items : goal.returns-clause-items
returns-clause-items c = grind (arith, common_steps, two_first)
