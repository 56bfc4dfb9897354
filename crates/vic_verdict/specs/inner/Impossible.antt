-- Where a log becomes impossible.
use Rattle.std.specs.Prelude.{ℕ, ◌+◌, ◌<◌, List, length, take}
use Rattle.vic_log.specs.declared.entry.Entry.{Entry}
use Rattle.vic_verdict.specs.Possible.{IsPossible}

-- some population could have produced the entries before position i, and none those with the one
-- there
pub record IsFirstImpossible (es : List Entry) (i : ℕ) : Type 0 where
  pub within : i < length es
  pub before : IsPossible (take i es)
  pub impossible : IsPossible (take (i + 1) es) → ⊥
