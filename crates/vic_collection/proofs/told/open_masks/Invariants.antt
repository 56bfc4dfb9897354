use Rattle.vic_collection.proofs.Words.{◌≡◌, ℕ, list_any, take}
use Rattle.vic_frame.specs.Masks.{lies_in}
use Rattle.vic_collection.specs.inner.Told.{is_open_by}
use Rattle.vic_collection.proofs.told.open_masks.Given as goal

abbrev pub invariant-loop-survey : goal.invariant-loop-survey
invariant-loop-survey l = (u : ℕ) → list_any (λ m. lies_in m u) l.masks.items ≡ list_any (λ s. is_open_by s.field u) (take l.survey-index l.surveys)
