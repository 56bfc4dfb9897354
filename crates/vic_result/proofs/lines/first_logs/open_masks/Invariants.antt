use Rattle.vic_result.proofs.Words.{◌≡◌, ℕ, list_any, take}
use Rattle.vic_frame.specs.Masks.{lies_in}
use Rattle.vic_result.specs.inner.FirstLogs.{is_open_somewhere}
use Rattle.vic_result.proofs.lines.first_logs.open_masks.Given as goal

abbrev pub invariant-loop-survey : goal.invariant-loop-survey
invariant-loop-survey l = (u : ℕ) → list_any (λ m. lies_in m u) l.masks.items ≡ is_open_somewhere (take l.survey-index l.surveys) u
