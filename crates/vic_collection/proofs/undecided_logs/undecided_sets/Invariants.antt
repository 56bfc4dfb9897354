use Rattle.vic_collection.proofs.Words.{◌≡◌, ℕ, map, take}
use Rattle.vic_frame.specs.Uids.{IsUid}
use Rattle.vic_tree.specs.Ranges.{is_open_in}
use Rattle.vic_collection.specs.Collections.{is_undecided_in}
use Rattle.vic_collection.proofs.undecided_logs.undecided_sets.Given as goal

abbrev pub invariant-loop-survey : goal.invariant-loop-survey
invariant-loop-survey l = (u : ℕ) → IsUid u → map (λ set. is_open_in set u) l.sets.items ≡ map (λ s. is_undecided_in s u) (take l.survey-index l.surveys)
