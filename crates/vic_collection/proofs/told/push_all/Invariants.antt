use Rattle.vic_collection.proofs.Words.{◌≡◌, ℕ, ◌++◌, ◌∷◌, [], cond, has, take}
use Rattle.vic_report.specs.Findings.{uids_of}
use Rattle.vic_collection.specs.Collections.{logs_in}
use Rattle.vic_collection.proofs.told.push_all.Given as goal

abbrev pub invariant-loop-shown : goal.invariant-loop-shown
invariant-loop-shown l = (u : ℕ) → logs_in l.sightings.items u ≡ logs_in l.fn.sightings.items u ++ cond (has (uids_of (take l.shown-index l.uids)) u) (l.log ∷ []) []
