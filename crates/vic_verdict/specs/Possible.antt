-- What a log says about the tags in the field: whether some population could have produced it,
-- which UIDs are in some such population, and which are in every one.
use Rattle.std.specs.Prelude.{◌≡◌, ℕ, true, List}
use Rattle.vic_frame.specs.Uids.{has}
use Rattle.vic_log.specs.declared.entry.Entry.{Entry}
use Rattle.vic_log.specs.Populations.{IsPopulation, CouldHaveGiven}

-- some population could have produced the entries
abbrev pub IsPossible : List Entry → Type 0
IsPossible es = (p : List ℕ) × IsPopulation p × CouldHaveGiven p es

-- some population that could have produced the entries has the UID
abbrev pub IsPossibleUid : List Entry → ℕ → Type 0
IsPossibleUid es u = (p : List ℕ) × IsPopulation p × CouldHaveGiven p es × (has p u ≡ true)

-- every population that could have produced the entries has the UID
abbrev pub IsCertainUid : List Entry → ℕ → Type 0
IsCertainUid es u = (p : List ℕ) → IsPopulation p → CouldHaveGiven p es → has p u ≡ true
