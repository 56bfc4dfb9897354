use Rattle.vic_log.proofs.Words.{◌≡◌, ◌++◌, ℕ, List, [], Some, Result, ap, sym, ◌∙◌, append-nil, arith, common_steps, LogFault, LogValue, ReadsAs, Judges}
use Rattle.vic_log.proofs.Early.{early}
use Rattle.vic_log.proofs.laws.pieces_give_the_whole.Goals as goal

at_end : (given left : List ℕ) → left ≡ [] → given ≡ given ++ left
at_end given left h = sym (ap (λ xs. given ++ xs) h ∙ append-nil given)

whole : (given left : List ℕ) (r : Result LogValue LogFault) → ReadsAs (Some left) given r → Judges (given ++ left) r
whole given left r h = grind (arith, common_steps, at_end, early)

pub returns : goal.returns
returns c = whole
