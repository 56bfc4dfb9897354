use Rattle.vic_collection.proofs.Words.{◌≡◌, ℕ, ◌++◌, ◌∷◌, [], cond, has, take}
use Rattle.vic_collection.specs.Collections.{logs_in}
use Rattle.vic_collection.proofs.undecided_logs.note_each.Given as goal

abbrev pub invariant-loop-uid : goal.invariant-loop-uid
invariant-loop-uid l = (u : ℕ) → logs_in l.rows.items u ≡ logs_in l.fn.rows.items u ++ cond (has (take l.uid-index l.uids) u) (l.log ∷ []) []
