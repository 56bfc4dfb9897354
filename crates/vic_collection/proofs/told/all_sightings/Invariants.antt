use Rattle.vic_collection.proofs.Words.{◌≡◌, ℕ, take}
use Rattle.vic_collection.specs.Collections.{is_certain_in, positions_from}
use Rattle.vic_collection.specs.Collections.{logs_in}
use Rattle.vic_collection.proofs.told.all_sightings.Given as goal

abbrev pub invariant-loop-index : goal.invariant-loop-index
invariant-loop-index l = (u : ℕ) → logs_in l.sightings.items u ≡ positions_from (λ s. is_certain_in s u) 0 (take l.index l.surveys)
