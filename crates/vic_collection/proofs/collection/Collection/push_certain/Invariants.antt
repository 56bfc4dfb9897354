use Rattle.vic_collection.proofs.Words.{◌≡◌, ◌||◌, ℕ, has, take, list_any}
use Rattle.vic_collection.specs.Collections.{is_certain_in}
use Rattle.vic_collection.proofs.collection.Collection.push_certain.Given as goal

abbrev pub invariant-loop-survey : goal.invariant-loop-survey
invariant-loop-survey l = (u : ℕ) → has l.uids.items u ≡ (has l.fn.uids.items u || list_any (λ s. is_certain_in s u) (take l.survey-index l.survey-items))
